-- The tree of a measure is good if its tuplets are full and its events good.
use Rattle.std.proofs.lemmas.Bool.{and_parts, and_from, or_left, or_right}
use Rattle.std.proofs.lemmas.Bool.Decides.{nat_tests}
use Rattle.std.proofs.Common.{false, cond, ◌&&◌}
use Rattle.std.specs.Prelude.{⊤}
use Rattle.std.proofs.Common.{◌||◌, nat_le, arith, ◌≡◌, ◌∙◌, refl, sym, ap, subst, ℕ, zero, suc, ◌+◌, ◌-◌, ◌≤◌, List}
use Rattle.std.proofs.Common.{[], ◌∷◌, ◌++◌, map, Bool, true}
use Rattle.mus_score.specs.declared.score.Music.{Music}
use Rattle.mus_score.specs.declared.good.NodeVerdict.{NodeVerdict}
use Rattle.mus_score.specs.declared.good.NodeContext.{NodeContext}
use Rattle.mus_score.specs.Good.{all_judged, good_step, judged_within, outside}
use Rattle.abc_steps.specs.declared.tuplets.OpenTuplets.{OpenTuplets}
use Rattle.abc_steps.specs.Tuplets.{fits, one_less, after_event, with_tuplet_opened}
use Rattle.abc_score.proofs.Rows.{at_tuplet}
use Rattle.abc_events.specs.{Leaf.Leaf, Nesting.{Forest, none_more, one, group, cut, nest, music_of, tree_of}}
use Rattle.mus_score.specs.declared.score.Music.TheVariants as music

-- ---- bodies in a context
abbrev pub judged_at : NodeContext → List Music → NodeVerdict
judged_at at body = all_judged (map judged_within body) at

abbrev pub IsGoodAt : NodeContext → List Music → Type 0
IsGoodAt at body = (judged_at at body).good ≡ true

abbrev pub HasSome : NodeContext → List Music → Type 0
HasSome at body = (judged_at at body).some ≡ true

or_more : (a b c : Bool) → (a || b) ≡ true → (b ≡ true → c ≡ true) → (a || c) ≡ true
or_more true b c e more = refl
or_more false b c e more = more e

pub good_append : (at : NodeContext) (xs ys : List Music) → IsGoodAt at xs → IsGoodAt at ys → IsGoodAt at (xs ++ ys)
good_append at [] ys a b = b
good_append at (x ∷ xs) ys a b = let parts = and_parts _ _ a in and_from _ _ parts.0 (good_append at xs ys parts.1 b)

pub some_append : (at : NodeContext) (xs ys : List Music) → HasSome at xs → HasSome at (xs ++ ys)
some_append at [] ys a = absurd cc
some_append at (x ∷ xs) ys a = or_more _ _ _ a (some_append at xs ys)

pub some_after : (at : NodeContext) (xs ys : List Music) → HasSome at ys → HasSome at (xs ++ ys)
some_after at [] ys a = a
some_after at (x ∷ xs) ys a = or_right (judged_within x at).some _ (some_after at xs ys a)

-- ---- tuplets

-- another tuplet may be inside one, but none inside two
abbrev pub within : ℕ → NodeContext
within deeper = record { deeper = deeper; inner = true; grace = false }

abbrev pub place_of : OpenTuplets → NodeContext
place_of OpenTuplets.Nothing = outside
place_of (OpenTuplets.Single left) = within 1
place_of (OpenTuplets.Nested inner outer) = within 0

pub record IsRatio (p q : ℕ) : Type 0 where
  pub p_low : 2 ≤ p
  pub p_high : p ≤ 9
  pub q_low : 1 ≤ q
  pub q_high : q ≤ 9

ratio_test : (p q : ℕ) (n b : Bool)
    → IsRatio p q → n ≡ true → b ≡ true → (nat_le 2 p && nat_le p 9 && nat_le 1 q && nat_le q 9 && n && b) ≡ true
ratio_test p q n b ratio some good = grind (arith, nat_tests)

module _ (deeper : ℕ) (inner : Bool) (p q : ℕ) (body others : List Music) (some : HasSome (within deeper) body) where
  abbrev around : NodeContext
  around = record { deeper = suc deeper; inner = inner; grace = false }

  group_good : IsRatio p q
      → IsGoodAt (within deeper) body → IsGoodAt around others → IsGoodAt around (music.Tuplet p q body ∷ others)
  group_good ratio good =
      and_from _ _
      (ap (λ (j : NodeContext → NodeVerdict). (j around).good) (at_tuplet good_step p q body)
      ∙ ratio_test p q _ _ ratio some good)

  group_some : HasSome around (music.Tuplet p q body ∷ others)
  group_some =
      or_left _ _ (ap (λ (j : NodeContext → NodeVerdict). (j around).some) (at_tuplet good_step p q body) ∙ some)

-- ---- what the open tuplets take is good, and so is the rest
abbrev pub IsOpen : OpenTuplets → Type 0
IsOpen OpenTuplets.Nothing = ⊤
IsOpen (OpenTuplets.Single left) = 1 ≤ left
IsOpen (OpenTuplets.Nested inner outer) = (1 ≤ inner) × (inner ≤ outer)

pub record FineOne (left : ℕ) (f : Forest) : Type 0 where
  pub taken : IsGoodAt (within 1) (music_of (cut left f).taken)
  pub some : HasSome (within 1) (music_of (cut left f).taken)
  pub following : IsGoodAt outside (music_of (cut left f).left)

pub record FineTwo (inner rest : ℕ) (f : Forest) : Type 0 where
  pub taken : IsGoodAt (within 0) (music_of (cut inner f).taken)
  pub some : HasSome (within 0) (music_of (cut inner f).taken)
  pub others : IsGoodAt (within 1) (music_of (cut rest (cut inner f).left).taken)
  pub following : IsGoodAt outside (music_of (cut rest (cut inner f).left).left)

abbrev pub Fine : OpenTuplets → Forest → Type 0
Fine OpenTuplets.Nothing f = IsGoodAt outside (music_of f)
Fine (OpenTuplets.Single left) f = FineOne left f
Fine (OpenTuplets.Nested inner outer) f = FineTwo inner (outer - inner) f

-- what one tuplet takes after its first event, and what two do
one_left : (n r : ℕ) → n ≡ suc (suc r) → one_less n ≡ OpenTuplets.Single (suc r)
one_left n r is = grind (arith, nat_tests)

two_left : (m n r s : ℕ) → m ≡ suc (suc r) → n ≡ suc s
    → cond (nat_le m 1) (one_less n) (OpenTuplets.Nested (m - 1) (n - 1)) ≡ OpenTuplets.Nested (suc r) s
two_left m n r s is also = grind (arith, nat_tests)

after_one : (r : ℕ) (f : Forest) → Fine (one_less (suc r)) f
    → IsGoodAt (within 1) (music_of (cut r f).taken) × IsGoodAt outside (music_of (cut r f).left)
after_one zero f fine = (refl, fine)
after_one (suc r) f fine = let own = subst (λ t. Fine t f) (one_left _ r refl) fine in (own.taken, own.following)

after_two : (r s rest : ℕ) (f : Forest)
    → s ≡ r + rest → Fine (cond (nat_le (suc r) 1) (one_less (suc s)) (OpenTuplets.Nested (suc r - 1) (suc s - 1))) f
    → IsGoodAt (within 0) (music_of (cut r f).taken) × IsGoodAt (within 1) (music_of (cut rest (cut r f).left).taken)
    × IsGoodAt outside (music_of (cut rest (cut r f).left).left)
after_two zero s rest f is fine =
    let same : s ≡ rest = omega arith in
    let own = after_one rest f (subst (λ n. Fine (one_less (suc n)) f) same fine) in
    (refl, own.0, own.1)
after_two (suc r) s rest f is fine =
    let same : s - suc r ≡ rest = omega arith in
    let own = subst (λ n. FineTwo (suc r) n f) same (subst (λ t. Fine t f) (two_left _ _ r s refl refl) fine) in
    (own.taken, own.others, own.following)

event_fine : (t : OpenTuplets) (nodes : List Music) (f : Forest)
    → IsOpen t → IsGoodAt (place_of t) nodes → HasSome (place_of t) nodes
    → Fine (after_event t) f
    → Fine t (one nodes f)
unfolding after_event
event_fine OpenTuplets.Nothing nodes f is good some fine = good_append outside nodes (music_of f) good fine
event_fine (OpenTuplets.Single zero) nodes f is good some fine = absurd (omega (arith, is))
event_fine (OpenTuplets.Single (suc r)) nodes f is good some fine =
    let own = after_one r f fine in
    record { taken = good_append _ nodes _ good own.0; some = some_append _ nodes _ some; following = own.1 }
event_fine (OpenTuplets.Nested zero outer) nodes f is good some fine = absurd (omega (arith, is.0))
event_fine (OpenTuplets.Nested (suc r) zero) nodes f is good some fine = absurd (omega (arith, is.1))
event_fine (OpenTuplets.Nested (suc r) (suc s)) nodes f is good some fine =
    let own = after_two r s (suc s - suc r) f (omega (arith, is.1)) fine in
    record {
      taken = good_append _ nodes _ good own.0;
      some = some_append _ nodes _ some;
      others = own.1;
      following = own.2;
    }

opens_fine : (t : OpenTuplets) (p q r : ℕ) (f : Forest)
    → IsOpen t → fits r t ≡ true → IsRatio p q → Fine (with_tuplet_opened r t) f
    → Fine t (group p q r (cut r f).taken (cut r f).left)
unfolding fits
opens_fine OpenTuplets.Nothing p q r f is fit ratio fine =
    group_good 1 false p q _ _ fine.some ratio fine.taken fine.following
opens_fine (OpenTuplets.Single zero) p q r f is fit ratio fine = absurd (omega (arith, is))
opens_fine (OpenTuplets.Single (suc l)) p q r f is fit ratio fine =
    let own = subst (λ b. Fine (cond b (OpenTuplets.Nested r (suc l)) (OpenTuplets.Single (suc l))) f) fit fine in
    record {
      taken = group_good 0 true p q _ _ own.some ratio own.taken own.others;
      some = group_some 0 true p q _ _ own.some;
      following = own.following;
    }
opens_fine (OpenTuplets.Nested inner outer) p q r f is fit ratio fine = absurd cc

-- ---- the leaves of a measure
abbrev pub WellNested : OpenTuplets → List Leaf → Type 0
WellNested t [] = t ≡ OpenTuplets.Nothing
WellNested t (Leaf.Event measure nodes ∷ ls) =
    IsOpen t × IsGoodAt (place_of t) nodes × HasSome (place_of t) nodes × WellNested (after_event t) ls
WellNested t (Leaf.Opens measure p q r ∷ ls) =
    IsOpen t × (fits r t ≡ true) × IsRatio p q × WellNested (with_tuplet_opened r t) ls

nested_fine : (ls : List Leaf) (t : OpenTuplets) → WellNested t ls → Fine t (nest ls)
nested_fine [] t h = subst (λ x. Fine x none_more) (sym h) refl
nested_fine (Leaf.Event measure nodes ∷ ls) t h =
    event_fine t nodes (nest ls) h.0 h.1 h.2 (nested_fine ls (after_event t) h.3)
nested_fine (Leaf.Opens measure p q r ∷ ls) t h =
    opens_fine t p q r (nest ls) h.0 h.1 h.2 (nested_fine ls (with_tuplet_opened r t) h.3)

pub nested_good : (ls : List Leaf) → WellNested OpenTuplets.Nothing ls → IsGoodAt outside (tree_of ls)
nested_good ls h = nested_fine ls OpenTuplets.Nothing h
