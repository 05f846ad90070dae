use mathlib.Core.Path.{◌≡◌}
use Prim.Native.Nat.{◌%◌}
use lib.ListN.{length, get_or}
use Rattle.step_meaning.specs.declared.Source.TheVariants.{Fetch}
use Rattle.csr_words.specs.Setting.{setting_of}
use Rattle.step_hart.specs.Run.{run_from, Midway}
use Rattle.run_pages.specs.Pages.{Remembers}
use Rattle.run_turn.specs.Glide.{hart_at, Straight}
use Rattle.run_fast.specs.Memo.{Holds}
use Rattle.run_fast.proofs.steps.Given as goal

abbrev pub invariant-loop-left : goal.invariant-loop-left
invariant-loop-left l =
    (length l.mem ≡ length l.initial.mem) × Straight l.w × (setting_of l.w ≡ l.s) × (get_or l.x 0 0 ≡ 0) × (l.pc % 4 ≡ 0)
    × (length l.entries ≡ 4096) × (length l.frames ≡ 256) × Remembers l.pages l.s.control l.map (length l.mem) × Holds l.entries l.frames l.s l.mem l.map
    × Midway (run_from Fetch l.budget (hart_at l.initial.pc l.initial.x l.initial.w) l.initial.mem l.map) l.budget l.left Fetch (hart_at l.pc l.x l.w) l.mem l.map

abbrev pub decreases-loop-left : goal.decreases-loop-left
decreases-loop-left l = l.left
