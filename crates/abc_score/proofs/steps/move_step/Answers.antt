use Rattle.std.proofs.Common.{◌∙◌, ap, set, get_or, sym}
use Rattle.std.proofs.lemmas.List.Quantifiers.{position-Some}
use Rattle.std.proofs.lemmas.Result.{IfOk-weaker}
use Rattle.std.specs.Str.{bytes_eq}
use Rattle.abc_score.specs.declared.voices.ReadVoice.{ReadVoice}
use Rattle.abc_score.proofs.Moving.{none_moved, step_moved}
use Rattle.abc_score.proofs.steps.move_step.Goals as goal

pub returns-in-Some : goal.returns-in-Some
returns-in-Some c =
    let voices = c.args.voices.now in let current = c.args.current.now in let k = c.in-Some.k in
    let d = c.index-voices-k.result in
    let at = position-Some (λ (v : ReadVoice). bytes_eq v.start.id current) voices k d
    (sym c.place_of.ensures.value ∙ c.in-Some.is) in
    IfOk-weaker c.push.result _ _
    (λ u pushed.
    ap (λ steps. set voices k (record (get_or voices k d) { steps = steps })) pushed
    ∙ step_moved current c.args.step voices k d c.requires at.0 at.1)
    c.push.ensures.ok

pub returns-in-None : goal.returns-in-None
returns-in-None c =
    sym (none_moved c.args.current.now c.args.step c.args.voices.now (sym c.place_of.ensures.value ∙ c.in-None.is))
