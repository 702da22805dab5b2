use Rattle.std.proofs.Common.{◌∙◌, Bool, ap, rules}
use Rattle.std.proofs.Math.Path.{fun_ext}
use Rattle.std.specs.Cmp.Lexicographic.{pointwise}
use Rattle.mus_units.specs.declared.key.Sign.{Sign}
use Rattle.mus_transpose.proofs.keys.same_signs.Goals as goal

pub returns : goal.returns
returns c =
    c.eq.ensures
    ∙ ap (λ (same : Sign → Sign → Bool). pointwise same c.args.signs.now c.args.others.now)
    (fun_ext (λ s. fun_ext (λ t. search rules)))
