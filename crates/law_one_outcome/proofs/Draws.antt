-- Any good score is drawn in one way as the line of its staves says, or that line has one fault.
use mathlib.Core.{HLevel.{×_discrete}, List.{List-discrete}, Logic.Dec.{and as both}}
use Rattle.std.proofs.Common.{rules, ◌≡◌, ◌∙◌, refl, sym, ap, subst, ℕ, List, [], ◌∷◌, Bool, true, Decides, length, inl}
use Rattle.std.proofs.Common.{inr}
use Rattle.std.proofs.lemmas.List.{length-map}
use Rattle.std.proofs.Math.Bool.{Bool-discrete}
use Rattle.std.proofs.Math.Decide.{map_dec, ℕ_discrete}
use Rattle.std.specs.Prelude.{IfOk, IfSome, Option, Some, None, Result, Ok, Err, slice_get}
use Rattle.std.specs.List.{AllByRecursion}
use Rattle.std.specs.Option.{option_to_list}
use Rattle.abc_lines.specs.declared.book.Line.{Line}
use Rattle.abc_lines.specs.declared.fault.Fault.{Fault}
use Rattle.abc_lines.specs.declared.fault.FaultKind.{FaultKind}
use Rattle.abc_lines.specs.Results.{HasOneResult}
use Rattle.set_tune.specs.Setting.{IsScoreDrawn, share_fault}
use Rattle.mus_units.specs.contracts.key.SignPartialEq.TheImpl.{ghosts as signs}
use Rattle.mus_units.specs.contracts.key.MeterPartialEq.TheImpl.{ghosts as meters}
use Rattle.mus_units.specs.contracts.pitch.ClefPartialEq.TheImpl.{ghosts as clefs}
use Rattle.mus_units.specs.declared.pitch.Clef.{Clef}
use Rattle.mus_units.specs.declared.key.Key.{Key}
use Rattle.mus_units.specs.declared.key.Meter.{Meter}
use Rattle.mus_score.specs.declared.score.Score.{Score}
use Rattle.mus_score.specs.declared.score.Voice.{Voice}
use Rattle.mus_score.specs.GoodScore.{IsGoodScore}
use Rattle.lay_shared.specs.Drawn.{drawn_of}
use Rattle.lay_shared.specs.declared.plan.Plan.{Plan}
use Rattle.lay_shared.specs.declared.plan.PlannedStaff.{PlannedStaff}
use Rattle.lay_shared.specs.Alike.{HaveSameChanges, DoShare, story_at}
use Rattle.lay_shared.specs.Plans.{IsPlanFor, SpellsPlan, score_ids}
use Rattle.lay_shared.specs.Reading.{plan_by, plan_signs_from}
use Rattle.lay_shared.specs.declared.changes.TimedChange.{TimedChange}
use Rattle.lay_shared.specs.declared.changes.VoiceChanges.{VoiceChanges}
use Rattle.lay_shared.proofs.DrawnLaws.{drawn_good}
use Rattle.lay_shared.proofs.PlanLaws.{apart_ids, one_plan, read-spells, spelled-plan, spelled-read}
use Rattle.law_one_outcome.proofs.Stages.{IsOnce}

-- ---- what can be decided

-- by a test
pub decided : {P : Type 0} (test : Bool) → Decides test P → Dec P
decided test tells = map_dec tells.0 tells.1 (Bool-discrete test true)

-- by parts that determine it
parted : {A B : Type 0} → Discrete B → (f : A → B) (g : B → A) → ((x : A) → g (f x) ≡ x) → Discrete A
parted parts f g back x y = map_dec (λ e. sym (back x) ∙ ap g e ∙ back y) (ap f) (parts (f x) (f y))

same_option : {A : Type 0} → Discrete A → Discrete (Option A)
same_option {A} each = parted (List-discrete each) option_to_list (λ xs. slice_get xs 0) back
  where
    back : (o : Option A) → slice_get (option_to_list o) 0 ≡ o
    back None = refl
    back (Some x) = refl

same_clef : Discrete Clef
same_clef x y = decided (clefs.eq x y) (search rules)

same_key : Discrete Key
same_key =
    parted (List-discrete (λ x y. decided (signs.eq x y) (search rules))) (λ k. k.signs) (λ ss. record { signs = ss })
    (λ k. refl)

same_meter : Discrete Meter
same_meter x y = decided (meters.eq x y) (search rules)

same_change : Discrete TimedChange
same_change =
    let changes = ×_discrete (same_option same_clef) (×_discrete (same_option same_key) (same_option same_meter)) in
    parted (×_discrete ℕ_discrete (×_discrete ℕ_discrete changes))
    (λ x. (x.measure, (x.tick, (x.changes.clef, (x.changes.key, x.changes.meter)))))
    (λ p.
    record { measure = p.0; tick = p.1.0; changes = record { clef = p.1.1.0; key = p.1.1.1.0; meter = p.1.1.1.1 } })
    (λ x. refl)

same_story : Discrete VoiceChanges
same_story =
    parted (×_discrete same_clef (×_discrete same_key (×_discrete same_meter (List-discrete same_change))))
    (λ s. (s.clef, (s.key, (s.meter, s.changes))))
    (λ p. record { clef = p.0; key = p.1.0; meter = p.1.1.0; changes = p.1.1.1 }) (λ s. refl)

-- ---- voices that share a staff
each : {X : Type 0} (P : X → Type 0) → ((x : X) → Dec (P x)) → (xs : List X) → Dec (AllByRecursion P xs)
each P one [] = yes tt
each P one (x ∷ xs) = both (one x) (each P one xs)

alike : (voices : List Voice) (places : List ℕ) → Dec (HaveSameChanges voices places)
alike voices [] = yes tt
alike voices (v ∷ vs) =
    each (λ w. story_at voices v ≡ story_at voices w)
    (λ w. same_option same_story (story_at voices v) (story_at voices w)) vs

do_share : (w : Score) (plan : Plan) → Dec (DoShare w plan)
do_share w plan =
    each (λ (staff : PlannedStaff). HaveSameChanges w.voices staff.voices) (λ staff. alike w.voices staff.voices)
    plan.staves

-- ---- the drawn score
fits : (w : Score) (line : Line) (plan : Plan)
    → SpellsPlan (score_ids w) line.text plan → IsPlanFor (length w.voices) plan
fits w line plan spells =
    subst (λ n. IsPlanFor n plan) (length-map w.voices (λ (v : Voice). v.id))
    (spelled-plan (score_ids w) line.text plan spells)

abbrev HasDrawn : Option Line → Score → Type 0
HasDrawn staves w = (r : Result Score Fault) × IsScoreDrawn staves w r × IfOk r IsGoodScore

shared_if : (line : Line) (w : Score) (plan : Plan)
    → IsGoodScore w → SpellsPlan (score_ids w) line.text plan → Dec (DoShare w plan) → HasDrawn (Some line) w
shared_if line w plan good spells (yes share) =
    (Ok (drawn_of w plan), (plan, spells, share, refl), drawn_good w plan good (fits w line plan spells))
shared_if line w plan good spells (no apart) =
    (Err (share_fault line FaultKind.BadShare), inr (plan, spells, apart, refl), tt)

spelled_if : (line : Line) (w : Score) (read : Option Plan)
    → IsGoodScore w → plan_by (plan_signs_from (score_ids w) [] line.text) ≡ read → HasDrawn (Some line) w
spelled_if line w None good e = (
  Err (share_fault line FaultKind.BadScore),
  inl (
    (λ plan spells. let clash = sym e ∙ spelled-read (score_ids w) line.text plan (apart_ids w good) spells in cc),
    refl,
  ),
  tt,
)
spelled_if line w (Some plan) good e =
    shared_if line w plan good
    (subst (λ r. IfSome r (SpellsPlan (score_ids w) line.text)) e (read-spells (score_ids w) line.text))
    (do_share w plan)

has_drawn : (staves : Option Line) (w : Score) → IsGoodScore w → HasDrawn staves w
has_drawn None w good = (Ok w, refl, good)
has_drawn (Some line) w good = spelled_if line w (plan_by (plan_signs_from (score_ids w) [] line.text)) good refl

-- ---- in one way
pub drawn_once : (staves : Option Line) (w : Score) → IsGoodScore w → IsOnce Score (IsScoreDrawn staves w)
drawn_once None w good r q a b = a ∙ sym b
drawn_once (Some line) w good (Ok s) (Ok t) (p, spells, share, is) (o, spelled, shared, at) =
    let same = one_plan (score_ids w) line.text o p (apart_ids w good) spelled spells in
    ap Ok (is ∙ sym (at ∙ ap (drawn_of w) same))
drawn_once (Some line) w good (Ok s) (Err g) (p, spells, share, is) (inl (none, at)) = absurd (none p spells)
drawn_once (Some line) w good (Ok s) (Err g) (p, spells, share, is) (inr (o, spelled, apart, at)) =
    absurd (apart (subst (DoShare w) (one_plan (score_ids w) line.text p o (apart_ids w good) spells spelled) share))
drawn_once (Some line) w good (Err f) (Ok t) (inl (none, is)) (o, spelled, shared, at) = absurd (none o spelled)
drawn_once (Some line) w good (Err f) (Ok t) (inr (p, spells, apart, is)) (o, spelled, shared, at) =
    absurd (apart (subst (DoShare w) (one_plan (score_ids w) line.text o p (apart_ids w good) spelled spells) shared))
drawn_once (Some line) w good (Err f) (Err g) (inl (none, is)) (inl (other, at)) = ap Err (is ∙ sym at)
drawn_once (Some line) w good (Err f) (Err g) (inl (none, is)) (inr (o, spelled, apart, at)) = absurd (none o spelled)
drawn_once (Some line) w good (Err f) (Err g) (inr (p, spells, apart, is)) (inl (none, at)) = absurd (none p spells)
drawn_once (Some line) w good (Err f) (Err g) (inr (p, spells, apart, is)) (inr (o, spelled, other, at)) =
    ap Err (is ∙ sym at)

pub one_drawn : (staves : Option Line) (w : Score) → IsGoodScore w
    → (one : HasOneResult (IsScoreDrawn staves w)) × IfOk one.0 IsGoodScore
one_drawn staves w good =
    let d = has_drawn staves w good in ((d.0, d.1, λ other is. drawn_once staves w good d.0 other d.1 is), d.2)
