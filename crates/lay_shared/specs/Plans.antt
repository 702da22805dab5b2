-- The plan of staves that a `%%score` line spells.
use Rattle.std.specs.Prelude.{◌≡◌, ◌≢◌, ◌≤◌, ◌<◌, ⊤, ℕ, List, [], ◌∷◌, length, map, flat_map, All, Option, Some, None}
use Rattle.std.specs.List.{AllByRecursion, filter_map}
use Rattle.mus_score.specs.{declared.score.Score.Score, declared.score.Voice.Voice}
use Rattle.lay_shared.specs.declared.signs.PlanSign.{PlanSign}
use Rattle.lay_shared.specs.declared.plan.Plan.{Plan}
use Rattle.lay_shared.specs.declared.plan.PlannedStaff.{PlannedStaff}
use Rattle.lay_shared.specs.Signs.{Writes}
use Rattle.lay_shared.specs.Trees.{Trees, staves_of_trees, tree_signs}

-- the ids of a score's voices
abbrev pub score_ids : Score → List (List ℕ)
score_ids s = map (λ (v : Voice). v.id) s.voices

abbrev pub voice_in : PlanSign → Option ℕ
voice_in (PlanSign.Voice v) = Some v
voice_in _ = None

-- the voices that signs name
abbrev pub named : List PlanSign → List ℕ
named ss = filter_map voice_in ss

-- no voice is named twice
abbrev pub NamesEachOnce : List ℕ → Type 0
NamesEachOnce [] = ⊤
NamesEachOnce (v ∷ vs) = AllByRecursion (λ w. v ≢ w) vs × NamesEachOnce vs

-- The text spells the plan, with these voice ids: its signs are those of trees, so they pair and parentheses hold
-- only ids and at least one; each id is a voice's and occurs once; and there is at least one.
pub record SpellsPlan (ids : List (List ℕ)) (text : List ℕ) (plan : Plan) : Type 0 where
  pub signs : List PlanSign
  pub trees : Trees
  pub written : Writes ids signs text
  pub paired : signs ≡ tree_signs trees []
  pub once : NamesEachOnce (named signs)
  pub some : 1 ≤ length (named signs)
  pub staves : plan.staves ≡ staves_of_trees trees

-- the voices of a plan, in order
abbrev pub planned_voices : List PlannedStaff → List ℕ
planned_voices staves = flat_map (λ staff. staff.voices) staves

-- a plan for a score with that many voices: it names at least one, each at most once, and no staff is without one
pub record IsPlanFor (count : ℕ) (plan : Plan) : Type 0 where
  pub known : All (λ v. v < count) (planned_voices plan.staves)
  pub once : NamesEachOnce (planned_voices plan.staves)
  pub some : 1 ≤ length plan.staves
  pub full : All (λ staff. 1 ≤ length staff.voices) plan.staves
