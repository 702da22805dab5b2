-- The trees of a `%%score` line, as they are written: a single voice has a staff of its own, voices in parentheses
-- share one, and brackets enclose trees.
use Rattle.std.specs.Prelude.{ℕ, List, [], ◌∷◌, ◌++◌, Bool, true, false}
use Rattle.lay_shared.specs.declared.{signs.Bracket.Bracket, signs.PlanSign.PlanSign, plan.PlannedStaff.PlannedStaff}

-- a list of trees: the first, and those after it
pub data Trees : Type 0 where
  no_tree : Trees
  voice_tree : ℕ → Trees → Trees
  staff_tree : ℕ → List ℕ → Trees → Trees
  group_tree : Bracket → Trees → Trees → Trees

-- The signs of trees, followed by the rest.
abbrev pub voice_signs : List ℕ → List PlanSign → List PlanSign
voice_signs [] following = following
voice_signs (v ∷ vs) following = PlanSign.Voice v ∷ voice_signs vs following

abbrev pub tree_signs : Trees → List PlanSign → List PlanSign
tree_signs no_tree following = following
tree_signs (voice_tree v more) following = PlanSign.Voice v ∷ tree_signs more following
tree_signs (staff_tree v vs more) following =
    PlanSign.StaffOpens ∷ PlanSign.Voice v ∷ voice_signs vs (PlanSign.StaffEnds ∷ tree_signs more following)
tree_signs (group_tree b inner more) following =
    PlanSign.Opens b ∷ tree_signs inner (PlanSign.Ends b ∷ tree_signs more following)

-- the voices of each staff, in the order of the text
abbrev pub shares_of : Trees → List (List ℕ)
shares_of no_tree = []
shares_of (voice_tree v more) = (v ∷ []) ∷ shares_of more
shares_of (staff_tree v vs more) = (v ∷ vs) ∷ shares_of more
shares_of (group_tree b inner more) = shares_of inner ++ shares_of more

abbrev pub planned : Bool → List ℕ → PlannedStaff
planned leads voices = record { leads = leads; voices = voices }

-- the staves of one group: the first of them leads it if no other staff of the group is before them
abbrev pub staves_of_group : Bool → List (List ℕ) → List PlannedStaff
staves_of_group leads [] = []
staves_of_group leads (voices ∷ more) = planned leads voices ∷ staves_of_group false more

-- the staves of outermost trees, each of which is a group of its own
abbrev pub staves_of_trees : Trees → List PlannedStaff
staves_of_trees no_tree = []
staves_of_trees (voice_tree v more) = planned true (v ∷ []) ∷ staves_of_trees more
staves_of_trees (staff_tree v vs more) = planned true (v ∷ vs) ∷ staves_of_trees more
staves_of_trees (group_tree b inner more) = staves_of_group true (shares_of inner) ++ staves_of_trees more
