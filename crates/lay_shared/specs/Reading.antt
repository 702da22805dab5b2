-- The reading of a `%%score` line, between the code and the meaning: signs byte by byte, then staves sign by sign
-- with the open brackets, the innermost first.
use Rattle.std.specs.Prelude.{ℕ, List, [], ◌∷◌, ◌++◌, Bool, true, false, ◌==◌, ◌&&◌, ◌||◌, not, nat_le, if◌then◌else◌}
use Rattle.std.specs.Prelude.{length, position, Option, Some, None}
use Rattle.std.specs.List.{list_any}
use Rattle.std.specs.Option.{option_and_then, option_to_list}
use Rattle.std.specs.Str.{bytes_eq}
use Rattle.lay_shared.specs.declared.plan.Plan.{Plan}
use Rattle.lay_shared.specs.declared.plan.PlannedStaff.{PlannedStaff}
use Rattle.lay_shared.specs.declared.reading.PlanReader.{PlanReader}
use Rattle.lay_shared.specs.declared.signs.Bracket.{Bracket}
use Rattle.lay_shared.specs.declared.signs.PlanSign.{PlanSign}
use Rattle.lay_shared.specs.Plans.{named}
use Rattle.lay_shared.specs.Signs.{is_id, plan_sign_at}
use Rattle.lay_shared.specs.Trees.{planned}

abbrev pub place_of : List ℕ → List (List ℕ) → Option ℕ
place_of word ids = position (λ id. bytes_eq id word) ids

abbrev pub voice_sign : Option ℕ → PlanSign
voice_sign (Some v) = PlanSign.Voice v
voice_sign None = PlanSign.UnknownVoice

abbrev pub word_signs : List (List ℕ) → List ℕ → List PlanSign
word_signs ids [] = []
word_signs ids (b ∷ word) = voice_sign (place_of (b ∷ word) ids) ∷ []

-- the signs of a text after a part of a word
abbrev pub plan_signs_from : List (List ℕ) → List ℕ → List ℕ → List PlanSign
plan_signs_from ids word [] = word_signs ids word
plan_signs_from ids word (b ∷ text) =
    if is_id b then plan_signs_from ids (word ++ b ∷ []) text
    else word_signs ids word ++ (option_to_list (plan_sign_at b) ++ plan_signs_from ids [] text)

abbrev pub has_no_bracket : List Bracket → Bool
has_no_bracket [] = true
has_no_bracket (b ∷ bs) = false

abbrev pub same_bracket : Bracket → Bracket → Bool
same_bracket Bracket.Square Bracket.Square = true
same_bracket Bracket.Curly Bracket.Curly = true
same_bracket _ _ = false

-- one more staff, which leads its group if no staff of that group is before it
abbrev pub with_staff : PlanReader → List ℕ → PlanReader
with_staff at voices = record {
  brackets = at.brackets;
  inside = None;
  leads = has_no_bracket at.brackets;
  staves = at.staves ++ planned at.leads voices ∷ [];
}

abbrev pub with_voice : PlanReader → ℕ → Option (List ℕ) → PlanReader
with_voice at v None = with_staff at (v ∷ [])
with_voice at v (Some vs) = record at { inside = Some (vs ++ v ∷ []) }

abbrev pub staff_opened : PlanReader → Option (List ℕ) → Option PlanReader
staff_opened at None = Some (record at { inside = Some [] })
staff_opened at (Some vs) = None

abbrev pub staff_closed : PlanReader → Option (List ℕ) → Option PlanReader
staff_closed at (Some (v ∷ vs)) = Some (with_staff at (v ∷ vs))
staff_closed at _ = None

abbrev pub entered : PlanReader → Bracket → Option (List ℕ) → Option PlanReader
entered at b None = Some (record at { brackets = b ∷ at.brackets })
entered at b (Some vs) = None

-- after the last bracket the next staff leads a group
abbrev pub bracket_left : PlanReader → Bracket → List Bracket → Option PlanReader
bracket_left at b [] = None
bracket_left at b (c ∷ more) =
    if same_bracket b c then Some (record at { brackets = more; leads = at.leads || has_no_bracket more }) else None

abbrev pub left : PlanReader → Bracket → Option (List ℕ) → Option PlanReader
left at b None = bracket_left at b at.brackets
left at b (Some vs) = None

abbrev pub after_sign : PlanReader → PlanSign → Option PlanReader
after_sign at (PlanSign.Voice v) = Some (with_voice at v at.inside)
after_sign at PlanSign.UnknownVoice = None
after_sign at PlanSign.StaffOpens = staff_opened at at.inside
after_sign at PlanSign.StaffEnds = staff_closed at at.inside
after_sign at (PlanSign.Opens b) = entered at b at.inside
after_sign at (PlanSign.Ends b) = left at b at.inside

abbrev pub ended_if : PlanReader → Option (List ℕ) → Bool → Option (List PlannedStaff)
ended_if at None true = Some at.staves
ended_if at _ _ = None

abbrev pub ended : PlanReader → Option (List PlannedStaff)
ended at = ended_if at at.inside (has_no_bracket at.brackets)

abbrev pub run : PlanReader → List PlanSign → Option (List PlannedStaff)
run at [] = ended at
run at (sign ∷ more) = option_and_then (λ next. run next more) (after_sign at sign)

abbrev pub start : PlanReader
start = record { brackets = []; inside = None; leads = true; staves = [] }

-- no voice is named twice
abbrev pub is_once : List ℕ → Bool
is_once [] = true
is_once (v ∷ vs) = not (list_any (λ w. w == v) vs) && is_once vs

abbrev pub is_fair : List ℕ → Bool
is_fair vs = nat_le 1 (length vs) && is_once vs

abbrev pub plan_if : Bool → Option (List PlannedStaff) → Option Plan
plan_if true (Some staves) = Some (record { staves = staves })
plan_if _ _ = None

abbrev pub plan_by : List PlanSign → Option Plan
plan_by ss = plan_if (is_fair (named ss)) (run start ss)
