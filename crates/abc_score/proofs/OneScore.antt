-- A body has one score or one fault under its header, and not both.
use Rattle.std.proofs.Common.{◌≡◌, ◌∙◌, sym, ap, subst, inl, inr, Bool, None, Result, Ok, Err}
use Rattle.abc_lines.specs.declared.book.TuneText.{TuneText}
use Rattle.abc_lines.specs.declared.fault.Fault.{Fault}
use Rattle.abc_lines.specs.declared.fault.TuneError.{TuneError}
use Rattle.abc_lines.specs.Results.{IsOnlyFault, IsOnlyResult}
use Rattle.abc_fields.specs.declared.header.Header.{Header}
use Rattle.abc_items.proofs.OneBody.{one_items, no_body_fault, one_body_fault}
use Rattle.abc_faults.specs.First.{IsFirstInOrder, IsLeastFault}
use Rattle.mus_score.specs.declared.score.Score.{Score}
use Rattle.abc_score.specs.Faults.{score_faults}
use Rattle.abc_score.specs.Score.{score_of}
use Rattle.abc_score.specs.Build.{body_lines, IsScoreOf, IsFaultOf, IsScoreResult}
use Rattle.abc_score.proofs.Ranked.{score_ranked, one_least, none_or_least}

not_both : (tune : TuneText) (flow : Bool) (header : Header) (s : Score) (f : Fault)
    → IsScoreOf header tune flow s → IsFaultOf header tune (TuneError.Fault f) → ⊥
not_both tune flow header s f a (inl b) = no_body_fault header (body_lines header tune) a.items f a.body b
not_both tune flow header s f a (inr b) =
    let same = one_items header (body_lines header tune) a.items b.items a.body b.body in
    none_or_least (score_faults header b.items) f
    (subst (λ items. IsFirstInOrder (score_faults header items) None) same a.clear) b.first

one_value : (tune : TuneText) (flow : Bool) (header : Header) (s t : Score)
    → IsScoreOf header tune flow s → IsScoreOf header tune flow t → s ≡ t
one_value tune flow header s t a b =
    a.value
    ∙ ap (λ items. score_of header items flow) (one_items header (body_lines header tune) a.items b.items a.body b.body)
    ∙ sym b.value

one_fault : (tune : TuneText) (header : Header) (f g : Fault)
    → IsFaultOf header tune (TuneError.Fault f) → IsFaultOf header tune (TuneError.Fault g) → f ≡ g
one_fault tune header f g (inl a) (inl b) = one_body_fault header (body_lines header tune) f g a b
one_fault tune header f g (inl a) (inr b) =
    absurd (no_body_fault header (body_lines header tune) b.items f b.body a)
one_fault tune header f g (inr a) (inl b) =
    absurd (no_body_fault header (body_lines header tune) a.items g a.body b)
one_fault tune header f g (inr a) (inr b) =
    let same = one_items header (body_lines header tune) b.items a.items b.body a.body in
    one_least (score_faults header a.items) f g (score_ranked header a.items) a.first
    (subst (λ items. IsLeastFault (score_faults header items) g) same b.first)

pub one_score : (header : Header) (tune : TuneText) (flow : Bool) (result : Result Score Fault)
    → IsScoreResult header tune flow result → IsOnlyResult (IsScoreResult header tune flow) result
one_score header tune flow (Ok s) a (Ok t) b = ap Ok (one_value tune flow header s t a b)
one_score header tune flow (Ok s) a (Err g) b = absurd (not_both tune flow header s g a b)
one_score header tune flow (Err f) a (Ok t) b = absurd (not_both tune flow header t f b a)
one_score header tune flow (Err f) a (Err g) b = ap Err (one_fault tune header f g a b)

pub only_fault : (header : Header) (tune : TuneText) (flow : Bool) (e : TuneError)
    → IsFaultOf header tune e → IsOnlyFault (IsScoreResult header tune flow) e
only_fault header tune flow TuneError.Memory a = tt
only_fault header tune flow (TuneError.Fault fault) a = one_score header tune flow (Err fault) a
