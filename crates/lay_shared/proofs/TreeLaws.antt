-- The signs of trees are read as their staves, and signs that can be read are those of trees.
use Rattle.std.proofs.Common.{◌≡◌, refl, sym, ap, ◌∙◌, subst, ℕ, ◌≤◌, List, [], ◌∷◌, ◌++◌, Bool, true, false, length}
use Rattle.std.proofs.Common.{arith, append-nil, append_assoc}
use Rattle.std.specs.Prelude.{◌||◌, Option, Some, None}
use Rattle.lay_shared.specs.declared.plan.PlannedStaff.{PlannedStaff}
use Rattle.lay_shared.specs.declared.reading.PlanReader.{PlanReader}
use Rattle.lay_shared.specs.declared.signs.Bracket.{Bracket}
use Rattle.lay_shared.specs.declared.signs.PlanSign.{PlanSign}
use Rattle.lay_shared.specs.Reading.{has_no_bracket, same_bracket, run, start}
use Rattle.lay_shared.specs.Trees.{Trees, no_tree, voice_tree, staff_tree, group_tree, voice_signs, tree_signs}
use Rattle.lay_shared.specs.Trees.{shares_of, planned, staves_of_group, staves_of_trees}

abbrev reading : Option (List ℕ) → List Bracket → Bool → List PlannedStaff → PlanReader
reading inside open_ones leads staves = record { brackets = open_ones; inside = inside; leads = leads; staves = staves }

abbrev outside : List Bracket → Bool → List PlannedStaff → PlanReader
outside = reading None

-- ---- trees are read
itself : (b : Bracket) → same_bracket b b ≡ true
itself Bracket.Square = refl
itself Bracket.Curly = refl

voices-run : (us vs : List ℕ) (bs : List Bracket) (leads : Bool) (staves : List PlannedStaff)
    (following : List PlanSign)
    → run (reading (Some us) bs leads staves) (voice_signs vs following)
    ≡ run (reading (Some (us ++ vs)) bs leads staves) following
voices-run us [] bs leads staves following =
    ap (λ ws. run (reading (Some ws) bs leads staves) following) (sym (append-nil us))
voices-run us (v ∷ vs) bs leads staves following =
    voices-run (us ++ v ∷ []) vs bs leads staves following
    ∙ ap (λ ws. run (reading (Some ws) bs leads staves) following) (append_assoc us (v ∷ []) vs)

-- whether the next staff leads its group, after these
abbrev leads_after : Bool → List (List ℕ) → Bool
leads_after leads [] = leads
leads_after leads (vs ∷ more) = false

leads-append : (leads : Bool) (a b : List (List ℕ))
    → leads_after leads (a ++ b) ≡ leads_after (leads_after leads a) b
leads-append leads (x ∷ a) (y ∷ b) = refl
leads-append leads a b = refl

group-append : (leads : Bool) (a b : List (List ℕ))
    → staves_of_group leads (a ++ b) ≡ staves_of_group leads a ++ staves_of_group (leads_after leads a) b
group-append leads (x ∷ y ∷ a) b = ap (λ s. planned leads x ∷ s) (group-append false (y ∷ a) b)
group-append leads a b = refl

or_false : (b : Bool) → (b || false) ≡ b
or_false true = refl
or_false false = refl

inner-run : (trees : Trees) (b : Bracket) (bs : List Bracket) (leads : Bool) (staves : List PlannedStaff)
    (following : List PlanSign)
    → run (outside (b ∷ bs) leads staves) (tree_signs trees following)
    ≡ run (outside (b ∷ bs) (leads_after leads (shares_of trees)) (staves ++ staves_of_group leads (shares_of trees)))
    following
inner-run no_tree b bs leads staves following =
    ap (λ s. run (outside (b ∷ bs) leads s) following) (sym (append-nil staves))
inner-run (voice_tree v more) b bs leads staves following =
    inner-run more b bs false (staves ++ planned leads (v ∷ []) ∷ []) following
    ∙ ap (λ s. run (outside (b ∷ bs) (leads_after false (shares_of more)) s) following)
    (append_assoc staves (planned leads (v ∷ []) ∷ []) (staves_of_group false (shares_of more)))
    ∙ ap (λ l.
    run (outside (b ∷ bs) l (staves ++ planned leads (v ∷ []) ∷ staves_of_group false (shares_of more))) following)
    (sym (leads-append leads ((v ∷ []) ∷ []) (shares_of more)))
inner-run (staff_tree v vs more) b bs leads staves following =
    voices-run (v ∷ []) vs (b ∷ bs) leads staves (PlanSign.StaffEnds ∷ tree_signs more following)
    ∙ inner-run more b bs false (staves ++ planned leads (v ∷ vs) ∷ []) following
    ∙ ap (λ s. run (outside (b ∷ bs) (leads_after false (shares_of more)) s) following)
    (append_assoc staves (planned leads (v ∷ vs) ∷ []) (staves_of_group false (shares_of more)))
    ∙ ap (λ l.
    run (outside (b ∷ bs) l (staves ++ planned leads (v ∷ vs) ∷ staves_of_group false (shares_of more))) following)
    (sym (leads-append leads ((v ∷ vs) ∷ []) (shares_of more)))
inner-run (group_tree c inner more) b bs leads staves following =
    let still = leads_after leads (shares_of inner) in
    let done = staves ++ staves_of_group leads (shares_of inner) in
    let same = itself c in
    let on : run (outside (c ∷ b ∷ bs) still done) (PlanSign.Ends c ∷ tree_signs more following)
    ≡ run (outside (b ∷ bs) still done) (tree_signs more following) =
    rw same (ap (λ l. run (outside (b ∷ bs) l done) (tree_signs more following)) (or_false still)) in
    inner-run inner c (b ∷ bs) leads staves (PlanSign.Ends c ∷ tree_signs more following)
    ∙ on
    ∙ inner-run more b bs still done following
    ∙ ap (λ s. run (outside (b ∷ bs) (leads_after still (shares_of more)) s) following)
    (append_assoc staves (staves_of_group leads (shares_of inner)) (staves_of_group still (shares_of more))
    ∙ ap (λ s. staves ++ s) (sym (group-append leads (shares_of inner) (shares_of more))))
    ∙ ap (λ l. run (outside (b ∷ bs) l (staves ++ staves_of_group leads (shares_of inner ++ shares_of more))) following)
    (sym (leads-append leads (shares_of inner) (shares_of more)))

or_true : (b : Bool) → (b || true) ≡ true
or_true true = refl
or_true false = refl

outer-run : (trees : Trees) (staves : List PlannedStaff) (following : List PlanSign)
    → run (outside [] true staves) (tree_signs trees following)
    ≡ run (outside [] true (staves ++ staves_of_trees trees)) following
outer-run no_tree staves following = ap (λ s. run (outside [] true s) following) (sym (append-nil staves))
outer-run (voice_tree v more) staves following =
    outer-run more (staves ++ planned true (v ∷ []) ∷ []) following
    ∙ ap (λ s. run (outside [] true s) following)
    (append_assoc staves (planned true (v ∷ []) ∷ []) (staves_of_trees more))
outer-run (staff_tree v vs more) staves following =
    voices-run (v ∷ []) vs [] true staves (PlanSign.StaffEnds ∷ tree_signs more following)
    ∙ outer-run more (staves ++ planned true (v ∷ vs) ∷ []) following
    ∙ ap (λ s. run (outside [] true s) following)
    (append_assoc staves (planned true (v ∷ vs) ∷ []) (staves_of_trees more))
outer-run (group_tree c inner more) staves following =
    let still = leads_after true (shares_of inner) in
    let done = staves ++ staves_of_group true (shares_of inner) in
    let same = itself c in
    let on : run (outside (c ∷ []) still done) (PlanSign.Ends c ∷ tree_signs more following)
    ≡ run (outside [] true done) (tree_signs more following) =
    rw same (ap (λ l. run (outside [] l done) (tree_signs more following)) (or_true still)) in
    inner-run inner c [] true staves (PlanSign.Ends c ∷ tree_signs more following) ∙ on ∙ outer-run more done following
    ∙ ap (λ s. run (outside [] true s) following)
    (append_assoc staves (staves_of_group true (shares_of inner)) (staves_of_trees more))

pub trees-run : (trees : Trees) → run start (tree_signs trees []) ≡ Some (staves_of_trees trees)
trees-run trees = outer-run trees [] []

-- ---- what is read is a tree

-- trees, then the innermost open bracket is closed, and so on
abbrev Following : List Bracket → List PlanSign → Type 0
Following [] ss = (trees : Trees) × (ss ≡ tree_signs trees [])
Following (b ∷ bs) ss =
    (trees : Trees) × (more : List PlanSign) × (ss ≡ tree_signs trees (PlanSign.Ends b ∷ more)) × Following bs more

-- voices up to the end of a staff, some of which are already there, then the same
abbrev Left : Option (List ℕ) → List Bracket → List PlanSign → Type 0
Left None bs ss = Following bs ss
Left (Some us) bs ss =
    (vs : List ℕ)
    × (more : List PlanSign)
    × (ss ≡ voice_signs vs (PlanSign.StaffEnds ∷ more))
    × (1 ≤ length (us ++ vs))
    × Following bs more

voice-following : (v : ℕ) (bs : List Bracket) (ss : List PlanSign)
    → Following bs ss → Following bs (PlanSign.Voice v ∷ ss)
voice-following v [] ss (trees, e) = (voice_tree v trees, ap (λ s. PlanSign.Voice v ∷ s) e)
voice-following v (b ∷ bs) ss (trees, more, e, rest) =
    (voice_tree v trees, more, ap (λ s. PlanSign.Voice v ∷ s) e, rest)

staff-following : (v : ℕ) (vs : List ℕ) (bs : List Bracket) (ss : List PlanSign)
    → Following bs ss → Following bs (PlanSign.StaffOpens ∷ PlanSign.Voice v ∷ voice_signs vs (PlanSign.StaffEnds ∷ ss))
staff-following v vs [] ss (trees, e) = (
  staff_tree v vs trees,
  ap (λ s. PlanSign.StaffOpens ∷ PlanSign.Voice v ∷ voice_signs vs (PlanSign.StaffEnds ∷ s)) e,
)
staff-following v vs (b ∷ bs) ss (trees, more, e, rest) = (
  staff_tree v vs trees,
  more,
  ap (λ s. PlanSign.StaffOpens ∷ PlanSign.Voice v ∷ voice_signs vs (PlanSign.StaffEnds ∷ s)) e,
  rest,
)

staff-left : (bs : List Bracket) (ss : List PlanSign) → Left (Some []) bs ss → Following bs (PlanSign.StaffOpens ∷ ss)
staff-left bs ss ([], more, e, some, rest) = absurd (omega (arith, some))
staff-left bs ss (v ∷ vs, more, e, some, rest) =
    subst (λ s. Following bs (PlanSign.StaffOpens ∷ s)) (sym e) (staff-following v vs bs more rest)

group-following : (b : Bracket) (inner : Trees) (more ss : List PlanSign) (bs : List Bracket)
    → ss ≡ tree_signs inner (PlanSign.Ends b ∷ more) → Following bs more → Following bs (PlanSign.Opens b ∷ ss)
group-following b inner more ss [] e (trees, f) =
    (group_tree b inner trees, ap (λ s. PlanSign.Opens b ∷ s) (e ∙ ap (λ s. tree_signs inner (PlanSign.Ends b ∷ s)) f))
group-following b inner more ss (c ∷ bs) e (trees, others, f, rest) = (
  group_tree b inner trees,
  others,
  ap (λ s. PlanSign.Opens b ∷ s) (e ∙ ap (λ s. tree_signs inner (PlanSign.Ends b ∷ s)) f),
  rest,
)

pub none_some : {X : Type 0} (x : X) → None ≡ Some x → ⊥
none_some x e = cc

same-is : (b c : Bracket) → same_bracket b c ≡ true → b ≡ c
same-is Bracket.Square Bracket.Curly e = cc
same-is Bracket.Curly Bracket.Square e = cc
same-is b c e = refl

abbrev Sound : List PlanSign → Type 0
Sound ss =
    (inside : Option (List ℕ)) (bs : List Bracket) (leads : Bool) (staves got : List PlannedStaff)
    → run (reading inside bs leads staves) ss ≡ Some got → Left inside bs ss

closed-following : (b c : Bracket) (same : Bool) (bs : List Bracket) (leads : Bool) (staves got : List PlannedStaff)
    (ss : List PlanSign)
    → same_bracket b c ≡ same
    → run (outside (c ∷ bs) leads staves) (PlanSign.Ends b ∷ ss) ≡ Some got
    → Sound ss
    → Following (c ∷ bs) (PlanSign.Ends b ∷ ss)
closed-following b c false bs leads staves got ss e h sound = absurd (none_some got (rw e at h))
closed-following b c true bs leads staves got ss e h sound = (
  no_tree,
  ss,
  ap (λ x. PlanSign.Ends x ∷ ss) (same-is b c e),
  sound None bs (leads || has_no_bracket bs) staves got (rw e at h),
)

sound : (ss : List PlanSign) → Sound ss
sound [] None [] leads staves got h = (no_tree, refl)
sound (PlanSign.Voice v ∷ ss) None bs leads staves got h =
    voice-following v bs ss (sound ss None bs (has_no_bracket bs) (staves ++ planned leads (v ∷ []) ∷ []) got h)
sound (PlanSign.Voice v ∷ ss) (Some us) bs leads staves got h =
    let left = sound ss (Some (us ++ v ∷ [])) bs leads staves got h in (
      v ∷ left.0,
      left.1,
      ap (λ s. PlanSign.Voice v ∷ s) left.2,
      subst (λ s. 1 ≤ length s) (append_assoc us (v ∷ []) left.0) left.3,
      left.4,
    )
sound (PlanSign.StaffOpens ∷ ss) None bs leads staves got h =
    staff-left bs ss (sound ss (Some []) bs leads staves got h)
sound (PlanSign.StaffEnds ∷ ss) (Some (u ∷ us)) bs leads staves got h =
    ([], ss, refl, omega arith, sound ss None bs (has_no_bracket bs) (staves ++ planned leads (u ∷ us) ∷ []) got h)
sound (PlanSign.Opens b ∷ ss) None bs leads staves got h =
    let left = sound ss None (b ∷ bs) leads staves got h in group-following b left.0 left.1 ss bs left.2 left.3
sound (PlanSign.Ends b ∷ ss) None (c ∷ bs) leads staves got h =
    closed-following b c (same_bracket b c) bs leads staves got ss refl h (sound ss)
sound ss inside bs leads staves got h = absurd (none_some got h)

pub run-trees : (ss : List PlanSign) (got : List PlannedStaff)
    → run start ss ≡ Some got → (trees : Trees) × (ss ≡ tree_signs trees [])
run-trees ss got h = sound ss None [] true [] got h
