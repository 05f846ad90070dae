-- `memory::put` meets its contract: the low bytes of the number, in the place of as many. Assumes nothing.
use Rattle.std.proofs.Common.{◌+◌, ◌-◌, ◌∙◌, ap, take}
use borrow.Rule.Slice.PartMut.{put_mid}
use Rattle.memory.proofs.Sums.{low_bytes, placed}
use Rattle.memory.proofs.put.Goals as goal

pub returns : goal.returns
returns g c =
    let a = c.args in
    let n = g.row.N in
    ap (put_mid a.at (a.at + n - a.at) a.mem.now) (c.copy_from_slice.ensures.after ∙ ap (take n) c.to_le_bytes.ensures ∙ low_bytes n a.v c.requires.1)
    ∙ placed a.mem.now a.at n a.v
