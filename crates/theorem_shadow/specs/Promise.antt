-- The shadow stack keeps its promise. This file is the statement and nothing else; proofs/Demand.antt proves it, docs/SHADOW.md
-- explains it, and it is rules 13.2 to 13.8 of docs/HART.md. The user's words:
--
--   Start in user mode with Sv39 and both shadow-stack enables on, and let each frame of a valid shadow page stand in one entry of
--   the map only. Take any stretch of steps under one map, each from the hart and memory that the last one left, up to and
--   including the first trap, without a shadow swap and without a write of the shadow pointer by a CSR instruction. Then the
--   pointer has moved by 8 times completed pops less pushes, modulo 2^64; each shadow byte is what the latest push there wrote, else
--   its starting byte; and a pop-check that no landing pad check stops and whose access is permitted traps exactly when its
--   register differs from the push it matches, last in first out, or, with none unmatched, from the starting bytes at its address.
--
-- `ShadowClaim`, at the end, is the whole: `ShadowStarts`, `Stretch` and `Promise` are its three sentences. Each definition stands under the words that
-- it renders, in quotes, in their order but for what another one needs first.
--
-- Below, h is the hart, m memory, map the page map; h₀ and m₀ are those that the stretch starts from. A step is `step_from`, which the
-- calls `step`, `step_word` and `run` are proved to make, and its effect is `plan_of`.
use Rattle.std.specs.Prelude.{Ok, None, Bool, true, false, ◌&&◌, not, List, [], ◌∷◌, ◌↔◌, ◌≡◌, ℕ, suc, ◌+◌, ◌-◌, ◌*◌, ◌/◌, ◌%◌, ◌^◌, leb, ltb, get_or, drop, length}
use Rattle.word.specs.Choice.{pick}
use Rattle.decode.specs.Decode.{decode_of}
use Rattle.isa.specs.declared.Access.TheVariants as access
use Rattle.isa.specs.declared.CsrOperation.{CsrOperation}
use Rattle.isa.specs.declared.Instruction.TheVariants as instruction
use Rattle.isa.specs.declared.Width.{Width}
use Rattle.isa.specs.declared.Width.TheVariants.{Double}
use Rattle.address_leaf.specs.Leaf.{leaf_of, shadow_page_of}
use Rattle.isa.specs.declared.Kind.TheVariants as kind
use Rattle.address_place.specs.Place.{base, frame_of, place_of}
use Rattle.address_place.specs.declared.Physical.{Physical}
use Rattle.address.specs.declared.control.Control.{Control}
use Rattle.csr_access.specs.Enable.{sse_of}
use Rattle.csr.specs.declared.Csr.TheVariants.{Ssp}
use Rattle.step_transfer.specs.Access.{read_of}
use Rattle.step_meaning.specs.Plan.{fetched_of, is_pad_of}
use Rattle.step_effect.specs.Register.{reg_of}
use Rattle.step_effect.specs.declared.Effect.{Effect}
use Rattle.step_effect.specs.declared.Effect.TheVariants.{Write, Jump, Pad, Store, Push, Pop, Swap, Trap}
use Rattle.step_effect.specs.declared.Effect.TheVariants as effect
use Rattle.step_meaning.specs.declared.Source.{Source}
use Rattle.step_effect.specs.declared.Privileged.TheVariants as privileged
use Rattle.csr_words.specs.Words.{◌of◌, expected, PC, MODE, SSP, SATP, MENVCFG, SENVCFG}
use Rattle.csr_words.specs.Setting.{setting_of}
use Rattle.step_hart.specs.Step.{plan_of, step_from}
use Rattle.step_hart.specs.declared.Hart.{Hart}
use Rattle.run_call.specs.Call.{refusal_of}
use Rattle.theorem_origin.specs.Force.{in_force, leaf_at, Entry, ValidLeaf}

-- "a valid shadow page": and the page is a shadow page
abbrev pub ValidShadow : Control → (e : ℕ) → Type 0
ValidShadow c e = (shadow_page_of c.sse (leaf_of e) ≡ true) × ValidLeaf c e

-- "let each frame of a valid shadow page stand in one entry of the map only"; an entry whose leaf step 5 does not take is no page's, and
-- no frame stands there
abbrev pub StandsOnce : Control → (map : List ℕ) → Type 0
StandsOnce c map =
    (i j : ℕ) → Entry map i → Entry map j → ValidShadow c (leaf_at map i) → ValidLeaf c (leaf_at map j)
    → frame_of (leaf_at map j) ≡ frame_of (leaf_at map i) → j ≡ i

-- "Start in user mode with Sv39 and both shadow-stack enables on", from a state that refusals 1 to 3 do not apply to
pub record ShadowStarts (map : List ℕ) (h₀ : Hart) (m₀ : List ℕ) : Type 0 where
  pub accepted : refusal_of h₀ m₀ map ≡ None
  pub user : MODE of h₀.words ≡ 0
  pub sv39 : SATP of h₀.words / 2 ^ 60 ≡ 8
  pub menvcfg : sse_of (MENVCFG of h₀.words) ≡ true
  pub senvcfg : sse_of (SENVCFG of h₀.words) ≡ true
  pub once : StandsOnce (in_force h₀) map

-- what a step is to the shadow stack: a push of a value at a physical address, a pop, or neither
pub data Event : Type 0 where
  pushed : (at value : ℕ) → Event
  popped : Event
  quiet : Event

-- a push and a pop are those of the step's own effect, and complete, since a step that traps has the effect `Trap`. In the definitions a
-- register is a number without a bound; the eight bytes that a push stores hold it modulo 2^64
abbrev pub event_of : Effect → Event
event_of (Write rd v next) = quiet
event_of (Jump rd link next elp) = quiet
event_of (Pad next) = quiet
event_of (Store q w v next) = quiet
event_of (Push q v ssp next) = pushed q.0 (v % 2 ^ 64)
event_of (Pop ssp next) = popped
event_of (Swap rd old q w v next) = quiet
event_of (effect.Privileged k) = quiet
event_of (Trap cause tval) = quiet

-- "without a shadow swap"
abbrev pub NoSwap : Effect → Type 0
NoSwap e = (rd old : ℕ) (q : Physical) (w : Width) (v next : ℕ) → e ≡ Swap rd old q w v next → ⊥

-- "and without a write of the shadow pointer by a CSR instruction"
abbrev pub NoPointerWrite : Effect → Type 0
NoPointerWrite e = (o : CsrOperation) (v rd next : ℕ) → e ≡ effect.Privileged (privileged.Csr o Ssp true v rd next) → ⊥

-- "Take any stretch of steps under one map, each from the hart and memory that the last one left, up to and including the first trap":
-- its events, the newest first, the hart and memory that it leaves, and whether its last step trapped. A step takes its word from
-- any source: it fetches, or is given one
module _ (map : List ℕ) (h₀ : Hart) (m₀ : List ℕ) where
  pub data Stretch : List Event → Hart → List ℕ → (trapped : Bool) → Type 0 where
    start : Stretch [] h₀ m₀ false
    step : {es : List Event} {h : Hart} {m : List ℕ} → Stretch es h m false → (source : Source)
        → NoSwap (plan_of source h m map) → NoPointerWrite (plan_of source h m map)
        → Stretch (event_of (plan_of source h m map) ∷ es) (step_from source h m map).hart (step_from source h m map).memory
        (step_from source h m map).trapped

-- how many pushes completed
unfoldable pub pushes : List Event → ℕ
pushes [] = 0
pushes (pushed at v ∷ es) = suc (pushes es)
pushes (popped ∷ es) = pushes es
pushes (quiet ∷ es) = pushes es

-- how many pops completed
unfoldable pub pops : List Event → ℕ
pops [] = 0
pops (pushed at v ∷ es) = pops es
pops (popped ∷ es) = suc (pops es)
pops (quiet ∷ es) = pops es

-- "Then the pointer has moved by 8 times completed pops less pushes, modulo 2^64"
abbrev pub Moved : (ssp₀ ssp : ℕ) → List Event → Type 0
Moved ssp₀ ssp es = (ssp + 8 * pushes es) % 2 ^ 64 ≡ (ssp₀ + 8 * pops es) % 2 ^ 64

-- "each shadow byte": byte o of memory lies in the frame of a valid shadow page (beyond memory's end there is none: both sides are 0)
pub record Shadow (c : Control) (map : List ℕ) (o : ℕ) : Type 0 where
  pub entry : ℕ
  pub stands : Entry map entry
  pub valid : ValidShadow c (leaf_at map entry)
  pub frame : (base + o) / 4096 ≡ frame_of (leaf_at map entry)

-- byte o after a push of v at a physical address, which wrote eight bytes, the lowest first; else what it was before
abbrev pub wrote_of : (at v o before : ℕ) → ℕ
wrote_of at v o before = pick (leb at (base + o) && ltb (base + o) (at + 8)) (v / 256 ^ (base + o - at) % 256) before

-- "is what the latest push there wrote, else its starting byte"
unfoldable pub latest : List Event → (o starting : ℕ) → ℕ
latest [] o starting = starting
latest (pushed at v ∷ es) o starting = wrote_of at v o (latest es o starting)
latest (popped ∷ es) o starting = latest es o starting
latest (quiet ∷ es) o starting = latest es o starting

-- a landing pad check stops the word w
abbrev pub pad_stops : Hart → (w : ℕ) → Bool
pad_stops h w = (expected h.words && (setting_of h.words).pad) && not (is_pad_of w (reg_of h.x 7))

-- "a pop-check that no landing pad check stops": the word that the step fetches or is given is one, of a register that holds v
pub record PopCheck (source : Source) (h : Hart) (m map : List ℕ) (v : ℕ) : Type 0 where
  pub word : ℕ
  pub rd : ℕ
  pub rs1 : ℕ
  pub rs2 : ℕ
  pub off : ℕ
  pub arrives : fetched_of source (in_force h) (PC of h.words) m map ≡ Ok word
  pub passes : pad_stops h word ≡ false
  pub reads : decode_of word ≡ instruction.Memory access.Pop rd rs1 rs2 off
  pub register : v ≡ reg_of h.x rs1

-- "and whose access is permitted": its eight bytes at the pointer, masked and translated, are at the physical address q
abbrev pub Permitted : Hart → (m map : List ℕ) → (q : Physical) → Type 0
Permitted h m map q = place_of (in_force h) kind.Pop Double (SSP of h.words) map (length m) ≡ Ok q

-- the values that were pushed and not yet popped, "last in first out"
unfoldable pub unmatched : List Event → List ℕ
unmatched [] = []
unmatched (pushed at v ∷ es) = v ∷ unmatched es
unmatched (popped ∷ es) = drop 1 (unmatched es)
unmatched (quiet ∷ es) = unmatched es

-- "the push it matches, last in first out, or, with none unmatched, .. the starting bytes at its address"
abbrev pub match_of : List Event → (m₀ : List ℕ) → (q : Physical) → ℕ
match_of es m₀ q = get_or (unmatched es) 0 (read_of m₀ q Double)

-- what holds at the end of a stretch; "a pop-check" is one that comes next, so this is said of each one in the stretch and of one after it
pub record Promise (map : List ℕ) (h₀ : Hart) (m₀ : List ℕ) (es : List Event) (h : Hart) (m : List ℕ) (trapped : Bool) : Type 0 where
  pub pointer : Moved (SSP of h₀.words) (SSP of h.words) es
  pub bytes : (o : ℕ) → Shadow (in_force h₀) map o → get_or m o 0 ≡ latest es o (get_or m₀ o 0)
  -- "traps exactly when its register differs from" its match
  pub checks : trapped ≡ false → (source : Source) (v : ℕ) (q : Physical) → PopCheck source h m map v → Permitted h m map q
      → ((step_from source h m map).trapped ≡ true) ↔ (v ≡ match_of es m₀ q → ⊥)

-- the whole: "Start ..", "Take ..", "Then .."
abbrev pub ShadowClaim : Type 0
ShadowClaim =
    (map : List ℕ) (h₀ : Hart) (m₀ : List ℕ) → ShadowStarts map h₀ m₀
    → (es : List Event) (h : Hart) (m : List ℕ) (trapped : Bool) → Stretch map h₀ m₀ es h m trapped
    → Promise map h₀ m₀ es h m trapped
