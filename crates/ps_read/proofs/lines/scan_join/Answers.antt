use Rattle.std.proofs.Common.{◌∷◌, [], ◌∙◌, codes, pos, lit≤, refl}
use Rattle.{ps_text.specs.Document.{join_line}, ps_read.proofs.Forms.{small_number}}
use Rattle.ps_read.proofs.lines.scan_join.Goals as goal

pub returns : goal.returns
unfolding join_line
returns c top foot t f e =
    let z = small_number 0 (lit≤ tt) in
    let k = c.in_ok-zs.ensures (pos 0 ∷ top ∷ pos 0 ∷ foot ∷ []) (codes "vl") (z, (t, (z, (f, tt)))) refl e in
    c.joined_of.ensures top foot (c.as_slice.ensures ∙ k.0)
