-- `instruction` meets its contract: the quick way, a handler's CSR instruction, or nothing. Assumes nothing.
use mathlib.Core.Bool.{true}
use mathlib.Core.List.{List}
use mathlib.Core.Path.{◌≡◌, refl}
use Prim.Native.Nat.{ℕ}
use Rattle.csr_words.specs.Words.{◌of◌, MODE, SSP}
use Rattle.csr_words.specs.Setting.{setting_of}
use Rattle.csr_setting.specs.Regime.{control_of}
use Rattle.isa.specs.Mode.{mode_of}
use Rattle.run_turn.proofs.Gliding.{quickly, by_handler}
use Rattle.run_glide.proofs.instruction.Goals as goal

-- the setting's mode is the words'
mode_said : (w : List ℕ) → (setting_of w).control.mode ≡ mode_of (MODE of w)
unfolding setting_of control_of
mode_said w = refl

pub returns-in-Some : goal.returns-in-Some
returns-in-Some c =
    let a = c.args in
    quickly a.pc a.x.now a.w.now a.mem.now c.requires.1 a.map.now a.word c.requires.3 true c.in-Some.next
    c.word.new.x c.word.new.rest c.word.new.mem (rw (c.in-Some.is, c.requires.2.0) at c.word.ensures)

pub returns-then-handle : goal.returns-then-handle
returns-then-handle c =
    let a = c.args in
    let d = rw c.in_default.is at c.word.ensures in
    let h = c.handle.ensures a.pc (SSP of a.w.now) (setting_of a.w.now) a.mem.now a.map.now in
    rw (c.sum.ensures, d.2)
    (by_handler a.pc a.x.now a.w.now a.mem.now c.requires.1 a.map.now a.word c.requires.3 _ _
    ((rw (c.if-handle.true, d.0, d.1) at h) (mode_said a.w.now)))

pub returns : goal.returns
returns c =
    let a = c.args in
    let d = rw c.in_default.is at c.word.ensures in
    let h = c.handle.ensures a.pc (SSP of a.w.now) (setting_of a.w.now) a.mem.now a.map.now in
    let k = (rw (c.if-handle.false, d.0, d.1) at h) (mode_said a.w.now) in
    (k.0, k.1, d.2)
