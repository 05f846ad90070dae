-- What a user program can't see, proved.
-- Assumes nothing.
use mathlib.Core.List.{List}
use mathlib.Core.Path.{◌≡◌, refl}
use Prim.Native.Nat.{ℕ, ◌/◌, ◌^◌}
use Rattle.address.specs.declared.control.Control.{Control}
use Rattle.csr_words.specs.Words.{◌of◌, MODE, SATP}
use Rattle.step_hart.specs.declared.Hart.{Hart}
use Rattle.theorem_origin.specs.Force.{in_force, leaf_at}
use Rattle.theorem_origin.proofs.Users.{in_user, sv39_on}
use Rattle.theorem_isolation.specs.Unseen.{Taken, Marked, Seen, Keeps, Call, session_of, IsolationStarts, Unseen, ClaimBy, IsolationClaim}
use Rattle.theorem_isolation.proofs.Bytes.{keeps_fewer}
use Rattle.theorem_isolation.proofs.Frames.{Writable, marked, covers_more, writes_there}
use Rattle.theorem_isolation.proofs.Runs.{Sessions, sessions}

module _ (Valid : Control → (e : ℕ) → Type 0) (named : (c : Control) (e : ℕ) → Taken c e → Valid c e) where
  -- a frame that a valid entry with its U bit and W names is named
  seen : (c : Control) (map : List ℕ) (o : ℕ) → Seen Writable c map o → Seen Valid c map o
  seen c map o N = record { entry = N.entry; stands = N.stands; valid = named c (leaf_at map N.entry) N.valid.0; names = N.names }

  module _ (map : List ℕ) (h : Hart) (m n : List ℕ) (S : IsolationStarts Valid map h m n) (calls : List Call) where
    abbrev c : Control
    c = in_force h

    both_rows : Sessions (Seen Valid c map) (Seen Writable c map) map m n (session_of calls h m map) (session_of calls h n map)
    both_rows =
        let user = in_user h S.user in
        let on = sv39_on h S.sv39 in
        sessions (Seen Valid c map) (Seen Writable c map) map calls h m n
        (record { user = S.user; covered = covers_more c map user on Valid named; written = writes_there c map user on })
        S.alike

    unseen : Unseen Valid map h m n calls
    unseen = record {
      answers = both_rows.answers;
      named = both_rows.alike;
      own = keeps_fewer (Seen Writable c map) (Seen Valid c map) (seen c map) m _ both_rows.own;
      own' = keeps_fewer (Seen Writable c map) (Seen Valid c map) (seen c map) n _ both_rows.own';
    }

-- the theorem
pub by_step_5 : ClaimBy Taken
by_step_5 map h m n S calls = unseen Taken (λ c e t. t) map h m n S calls

pub by_bits : ClaimBy Marked
by_bits map h m n S calls = unseen Marked marked map h m n S calls

pub isolation : IsolationClaim
isolation = (by_step_5, by_bits)

-- and more than was asked: what no valid entry with its U bit and W names keeps its bytes too, so a frame that may only be read does.
-- (With page tables in memory this would be "written by neither", of table frames that no such leaf names.)
pub read_only_kept : (map : List ℕ) (h : Hart) (m : List ℕ) → MODE of h.words ≡ 0 → SATP of h.words / 2 ^ 60 ≡ 8 → (calls : List Call)
    → Keeps (Seen Writable (in_force h) map) m (session_of calls h m map).memory
read_only_kept map h m u s calls =
    (both_rows Taken (λ c e t. t) map h m m
    (record { user = u; sv39 = s; alike = record { long = refl; bytes = λ o f. refl } }) calls).own
