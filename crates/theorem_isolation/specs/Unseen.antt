-- What a user program can't see. This file is the statement and nothing else; proofs/Isolation.antt proves it,
-- docs/ISOLATION.md explains it, and it is rules 13.11 to 13.15 of docs/HART.md. The user's words:
--
--   Take two runs from the same user-mode hart with Sv39 on and the same map, with memories of the same length that differ only in
--   frames that no valid entry with its U bit names. Up to and including the first trap the harts, counts and trap answers are the
--   same, and every byte of the named frames is the same; the other frames keep their own bytes.
--
-- `IsolationClaim`, at the end, is the whole: `IsolationStarts` and `Unseen` are its two sentences. Each definition stands under the words that it renders, in
-- quotes, in their order but for what another one needs first.
--
-- Below, h is the hart, m and n the two memories, map the page map. A call is one of `run_machine`'s, by the definition that it is proved
-- to meet. No call need be taken: a refused one answers alike too.
use Rattle.std.specs.Prelude.{Bool, true, false, List, [], ◌∷◌, ◌≡◌, ℕ, ◌+◌, ◌/◌, ◌^◌, get_or, length}
use Rattle.std.specs.Option.{is_some}
use Rattle.address_leaf.specs.Leaf.{leaf_of}
use Rattle.address_place.specs.Place.{base, frame_of}
use Rattle.address.specs.declared.control.Control.{Control}
use Rattle.csr_words.specs.Words.{◌of◌, MODE, SATP}
use Rattle.step_hart.specs.declared.Hart.{Hart}
use Rattle.run_call.specs.Call.{Called, step_call_of, step_word_call, run_call_of}
use Rattle.run_call.specs.declared.Answer.{Answer}
use Rattle.theorem_origin.specs.Force.{in_force, leaf_at, Entry, ValidLeaf}

-- "valid entry with its U bit": its leaf word e has the U bit, and step 5 takes it as a page's
abbrev pub Taken : Control → (e : ℕ) → Type 0
Taken c e = ValidLeaf c e × ((leaf_of e).u ≡ true)

-- the same by its bits V and U alone, whatever else step 5 says of it: the other reading of "valid"
abbrev pub Marked : Control → (e : ℕ) → Type 0
Marked c e = ((leaf_of e).v ≡ true) × ((leaf_of e).u ≡ true)

-- "frames that no valid entry with its U bit names" are those that are not `Named`. Valid is one of the two readings; an entry with a
-- frame outside memory names no byte
pub record Named (Valid : Control → (e : ℕ) → Type 0) (c : Control) (map : List ℕ) (frame : ℕ) : Type 0 where
  pub entry : ℕ
  pub stands : Entry map entry
  pub valid : Valid c (leaf_at map entry)
  pub names : frame_of (leaf_at map entry) ≡ frame

-- byte o of memory lies in a named frame
abbrev pub Seen : (Valid : Control → (e : ℕ) → Type 0) → Control → (map : List ℕ) → (o : ℕ) → Type 0
Seen Valid c map o = Named Valid c map ((base + o) / 4096)

-- "memories of the same length that differ only in frames that .. no entry .. names", and after a run: "every byte of the named frames is
-- the same". Of is which bytes are to be the same
pub record Alike (Of : (o : ℕ) → Type 0) (m n : List ℕ) : Type 0 where
  pub long : length m ≡ length n
  pub bytes : (o : ℕ) → Of o → get_or m o 0 ≡ get_or n o 0

-- "the other frames keep their own bytes"
pub record Keeps (Of : (o : ℕ) → Type 0) (before after : List ℕ) : Type 0 where
  pub long : length after ≡ length before
  pub bytes : (o : ℕ) → (Of o → ⊥) → get_or after o 0 ≡ get_or before o 0

-- the three calls
pub data Call : Type 0 where
  step : Call
  step_given_word : (word : ℕ) → Call
  run : (budget : ℕ) → Call

abbrev pub call_of : Call → Hart → (m map : List ℕ) → Called
call_of step h m map = step_call_of h m map
call_of (step_given_word word) h m map = step_word_call word h m map
call_of (run budget) h m map = run_call_of budget h m map

-- what a row of calls leaves: all their answers, each with its hart, count, refusal and trap, and memory
pub record Session : Type 0 where
  pub answers : List Answer
  pub memory : List ℕ

-- a call, and where it did not trap what the rest of the row leaves
abbrev pub call_followed : (trapped : Bool) → Called → (rest : Session) → Session
call_followed true c rest = record { answers = c.answer ∷ []; memory = c.memory }
call_followed false c rest = record { answers = c.answer ∷ rest.answers; memory = rest.memory }

-- "Take two runs ..": calls under one map, each from the hart and memory that the last one left, "up to and including the first trap". A
-- single run is a row of one call
unfoldable pub session_of : List Call → Hart → (m map : List ℕ) → Session
session_of [] h m map = record { answers = []; memory = m }
session_of (c ∷ cs) h m map =
    call_followed (is_some (call_of c h m map).answer.trap) (call_of c h m map)
    (session_of cs (call_of c h m map).answer.hart (call_of c h m map).memory map)

module _ (Valid : Control → (e : ℕ) → Type 0) (map : List ℕ) (h : Hart) (m n : List ℕ) where
  -- "from the same user-mode hart with Sv39 on and the same map, with memories .."; docs/ISOLATION.md says what
  -- page tables in memory, or more in an answer, would add here
  pub record IsolationStarts : Type 0 where
    pub user : MODE of h.words ≡ 0
    pub sv39 : SATP of h.words / 2 ^ 60 ≡ 8
    pub alike : Alike (Seen Valid (in_force h) map) m n

  -- "the harts, counts and trap answers are the same, and every byte of the named frames is the same; the other frames keep their own
  -- bytes"
  pub record Unseen (calls : List Call) : Type 0 where
    pub answers : (session_of calls h m map).answers ≡ (session_of calls h n map).answers
    pub named : Alike (Seen Valid (in_force h) map) (session_of calls h m map).memory (session_of calls h n map).memory
    pub own : Keeps (Seen Valid (in_force h) map) m (session_of calls h m map).memory
    pub own' : Keeps (Seen Valid (in_force h) map) n (session_of calls h n map).memory

-- by a reading of "valid"
abbrev pub ClaimBy : (Valid : Control → (e : ℕ) → Type 0) → Type 0
ClaimBy Valid =
    (map : List ℕ) (h : Hart) (m n : List ℕ) → IsolationStarts Valid map h m n → (calls : List Call) → Unseen Valid map h m n calls

-- the whole: it holds by both
abbrev pub IsolationClaim : Type 0
IsolationClaim = ClaimBy Taken × ClaimBy Marked
