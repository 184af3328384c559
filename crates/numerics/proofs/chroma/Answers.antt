use mir.Syntax.{w32}
use mir.ValLaws.{to_z-of_z}
use Rattle.numerics.proofs.Signed.{read32, step_fits, chroma_fits}
use Rattle.numerics.proofs.chroma.Goals as goal

pub overflow_add-result : goal.overflow_add-result
overflow_add-result c =
    let a = c.args in
    let h = c.requires in
    let p = read32 c.signed_product.ensures (step_fits a.kp a.p a.bias h.0 h.2 h.4) in
    let q = read32 c.signed_product-2.ensures (step_fits a.kq a.q a.bias h.1 h.3 h.4) in
    rw (p, q) (chroma_fits a.kp a.kq a.p a.q a.bias h.0 h.1 h.2 h.3 h.4)

pub returns : goal.returns
returns c =
    let a = c.args in
    let h = c.requires in
    let p = read32 c.signed_product.ensures (step_fits a.kp a.p a.bias h.0 h.2 h.4) in
    let q = read32 c.signed_product-2.ensures (step_fits a.kq a.q a.bias h.1 h.3 h.4) in
    rw (p, q) (to_z-of_z w32 _ (chroma_fits a.kp a.kq a.p a.q a.bias h.0 h.1 h.2 h.3 h.4))
