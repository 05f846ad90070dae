-- `product::multiply::product` meets its contract at both sizes. Assumes nothing.
use Rattle.std.proofs.Common.{◌≡◌, ◌∙◌, ℕ, inl, inr, mod-lt, arith, sym}
use Rattle.word.specs.Sign.{sign_extend_of}
use Rattle.word.specs.Size.{IsSize, sized}
use Rattle.word.proofs.Machine.{extend_all}
use Rattle.product.specs.Product.{product_of, product_word_of}
use Rattle.product.proofs.Whole.{product_word_lem}
use Rattle.product.proofs.multiply.product.Goals as goal

at_size : (k a b : ℕ) → IsSize k → sign_extend_of k (product_of a b) ≡ sized k (product_of a b) (product_word_of a b)
at_size k a b (inl e) = rw e (extend_all _ (mod-lt _ (omega arith)))
at_size k a b (inr e) = rw e (sym (product_word_lem a b))

pub returns : goal.returns
returns g c = c.extend.ensures ∙ at_size g.row.BITS c.args.a c.args.b c.requires
