-- Reading a part of a chord or a grace group gives the longest one.
use Rattle.std.proofs.Common.{◌≡◌, ℕ, ◌<◌, Bool, true, false, eqb, ltb, List, [], ◌∷◌, ◌++◌, length, Option, Some, None}
use Rattle.std.proofs.Common.{refl, ap, ◌∙◌, arith, rules}
use Rattle.std.proofs.Common.{inl, inr, ◌⊎◌, ◌||◌, not, IfSome, option_map, append-nil, length-append}
use Rattle.std.proofs.lemmas.Bool.{cond_both, or_right, or_cases}
use Rattle.std.proofs.lemmas.Bool.{and_parts, eqb-true, agree_below, agree_below_at, ltb-true}
use Rattle.abc_notes.specs.Items.{Inner, note_inside, letter_inside, named_inside, tie_inside, slur_inside}
use Rattle.abc_notes.specs.Items.{passed_inside, lone_inside, inner_then}
use Rattle.abc_notes.specs.Items.{IsName, is_passed_inside, IsInner, StandsInside, ReadInner, inner_read, closed_name}
use Rattle.abc_notes.specs.Items.{name_at, is_note_byte}
use Rattle.abc_notes.specs.Items.{item_class, dot_inside, named_or, inner_by_class, inner_at}
use Rattle.abc_notes.specs.declared.part.ItemClass.{ItemClass}
use Rattle.abc_notes.specs.Runs.{one_of, span_all}
use Rattle.abc_notes.specs.Lengths.{length_then}
use Rattle.abc_notes.specs.Decorations.{is_deco_letter, is_name_byte}
use Rattle.abc_notes.specs.Notes.{NoteForm, note_then}
use Rattle.abc_notes.specs.Notes.{sign_then, letter_byte, note_at, IsNote}
use Rattle.abc_notes.proofs.PartLaws.{mapped_some}
use Rattle.abc_notes.proofs.SpanLaws.{span_all-takes, span_all-pass, span_all-append, span_all-stops}
use Rattle.abc_notes.proofs.NoteLaws.{note_at-takes}
use Rattle.abc_notes.proofs.NoteLaws.{note_at-reaches}
use Rattle.std.specs.List.{list_all}
use Rattle.mus_units.specs.declared.pitch.Alter.{Alter}
use Rattle.mus_units.specs.declared.pitch.Letter.{Letter}
use Rattle.mus_units.specs.declared.pitch.Alter.TheVariants.{Sharp2}
use Rattle.mus_units.specs.declared.pitch.Letter.TheVariants.{C}

-- ---- what holds of each byte of a list holds of one of them
abbrev Each : (ℕ → Type 0) → List ℕ → Type 0
Each P [] = Unit {0}
Each P (k ∷ ks) = P k × Each P ks

one_of_each : (P : ℕ → Type 0) (ks : List ℕ) (b : ℕ) → Each P ks → one_of ks b ≡ true → P b
one_of_each P [] b each is = absurd cc
one_of_each P (k ∷ ks) b each is =
    elim (or_cases (eqb b k) (one_of ks b) is) [
      | inl here ↦ rw (eqb-true b k here) each.0
      | inr later ↦ one_of_each P ks b each.1 later
    ]

pub one_of_all : (p : ℕ → Bool) (ks : List ℕ) (b : ℕ) → list_all p ks ≡ true → one_of ks b ≡ true → p b ≡ true
one_of_all p [] b h is = absurd cc
one_of_all p (k ∷ ks) b h is =
    let r = and_parts (p k) (list_all p ks) h in
    elim (or_cases (eqb b k) (one_of ks b) is) [
      | inl here ↦ rw (eqb-true b k here) r.0
      | inr later ↦ one_of_all p ks b r.1 later
    ]

pub below_all : (ks : List ℕ) (n b : ℕ) → list_all (λ k. ltb k n) ks ≡ true → one_of ks b ≡ true → b < n
below_all ks n b h is = ltb-true b n (one_of_all (λ k. ltb k n) ks b h is)

-- one test implies another, as each byte shows
pub implied : (p q : ℕ → Bool) (n b : ℕ)
    → agree_below (λ x. not (p x) || q x) (λ x. true) n ≡ true → b < n → p b ≡ true → q b ≡ true
implied p q n b all lt h = rw h at (agree_below_at (λ x. not (p x) || q x) (λ x. true) n b all lt)

-- ---- names
name-closed : (name rest s : List ℕ) → s ≡ name ++ rest → list_all is_name_byte name ≡ true →
    IfSome (closed_name name rest) (λ z. IsName z.0 × (s ≡ z.0 ++ (33 ∷ z.1)))
name-closed [] rest s e pass = tt
name-closed (b ∷ name) [] s e pass = tt
name-closed (b ∷ name) (mark ∷ rest) s e pass =
    cond_both (eqb mark 33) _ _ (λ (r : Option (List ℕ × List ℕ)). IfSome r (λ z. IsName z.0 × (s ≡ z.0 ++ (33 ∷ z.1))))
    (λ h. (record { some = omega arith; bytes = pass }, e ∙ ap (λ m. (b ∷ name) ++ (m ∷ rest)) (eqb-true mark 33 h)))
    (λ h. tt)

pub name_at-takes : (s : List ℕ) → IfSome (name_at s) (λ z. IsName z.0 × (s ≡ z.0 ++ (33 ∷ z.1)))
unfolding name_at
name_at-takes s =
    let name = span_all is_name_byte s in
    name-closed name.0 name.1 s (span_all-takes is_name_byte s) (span_all-pass is_name_byte s)

pub name_at-reads : (name x : List ℕ) → IsName name → name_at (name ++ (33 ∷ x)) ≡ Some (name, x)
unfolding name_at
name_at-reads [] x good = absurd (omega (arith, good.some))
name_at-reads (b ∷ name) x good =
    rw (
      span_all-append is_name_byte (b ∷ name) (33 ∷ x) good.bytes,
      span_all-stops is_name_byte (33 ∷ x) refl,
      append-nil name,
    ) refl

-- ---- what is read is at the start
abbrev pub TakesInner : Bool → List ℕ → ReadInner → Type 0
TakesInner bang s r = IfSome r (λ z. StandsInside bang z.0 s z.1)

abbrev Fact : ItemClass → ℕ → Type 0
Fact ItemClass.Dot b = b ≡ 46
Fact ItemClass.Letter b = is_deco_letter b ≡ true
Fact ItemClass.Tie b = b ≡ 45
Fact ItemClass.Passed b = is_passed_inside b ≡ true
Fact ItemClass.Bang b = b ≡ 33
Fact _ b = Unit {0}

fact : (b : ℕ) → Fact (item_class b) b
unfolding item_class
fact b =
    let P : ItemClass → Type 0 = λ c. Fact c b in
    cond_both (is_note_byte b) _ _ P (λ e. tt) (λ e.
    cond_both (eqb b 46) _ _ P (eqb-true b 46) (λ e.
    cond_both (is_deco_letter b) _ _ P (λ e. e) (λ e.
    cond_both (eqb b 45) _ _ P (eqb-true b 45) (λ e.
    cond_both (is_passed_inside b) _ _ P (λ e. e) (λ e.
    cond_both (eqb b 33) _ _ P (eqb-true b 33) (λ e. tt))))))

dot-takes : (bang : Bool) (s : List ℕ) → TakesInner bang (46 ∷ s) (dot_inside s)
dot-takes bang [] = record { good = refl; cut = refl }
dot-takes bang (b ∷ s) =
    let P : ReadInner → Type 0 = TakesInner bang (46 ∷ b ∷ s) in
    cond_both (eqb b 40) _ _ P (λ e. record { good = tt; cut = ap (λ x. 46 ∷ x ∷ s) (eqb-true b 40 e) }) (λ e.
    cond_both (eqb b 45) _ _ P (λ f. record { good = tt; cut = ap (λ x. 46 ∷ x ∷ s) (eqb-true b 45 f) })
    (λ f. record { good = refl; cut = refl }))

bang-takes : (bang : Bool) (s : List ℕ) (r : Option (List ℕ × List ℕ))
    → bang ≡ false → IfSome r (λ z. IsName z.0 × (s ≡ z.0 ++ (33 ∷ z.1)))
    → TakesInner bang (33 ∷ s) (named_or r s)
bang-takes bang s None off t = record { good = off; cut = refl }
bang-takes bang s (Some z) off t = record { good = (off, t.0); cut = ap (λ x. 33 ∷ x) t.1 }

by-takes : (c : ItemClass) (bang : Bool) (b : ℕ) (s : List ℕ)
    → Fact c b → TakesInner bang (b ∷ s) (inner_by_class c bang b s)
by-takes ItemClass.Note bang b s h =
    mapped_some (λ z. (note_inside z.0, z.1)) _ (λ z. StandsInside bang z.0 (b ∷ s) z.1) (note_at-takes (b ∷ s))
    (λ z t. record { good = t.1; cut = t.0 })
by-takes ItemClass.Dot bang b s h = rw h (dot-takes bang s)
by-takes ItemClass.Letter bang b s h = record { good = or_right (eqb b 46) (is_deco_letter b) h; cut = refl }
by-takes ItemClass.Tie bang b s h = record { good = tt; cut = ap (λ x. x ∷ s) h }
by-takes ItemClass.Passed bang b s h = record { good = h; cut = refl }
by-takes ItemClass.Bang bang b s h =
    rw h (cond_both bang None _ (TakesInner bang (33 ∷ s)) (λ e. tt)
    (λ e. bang-takes bang s (name_at s) e (name_at-takes s)))
by-takes ItemClass.Nothing bang b s h = tt

pub inner_at-takes : (bang : Bool) (s : List ℕ) → TakesInner bang s (inner_at bang s)
unfolding inner_at
inner_at-takes bang [] = tt
inner_at-takes bang (b ∷ s) = by-takes (item_class b) bang b s (fact b)

-- ---- what is read is at least as long as each part at the same place
abbrev ReachesInner : List ℕ → Inner → ReadInner → Type 0
ReachesInner x f r = (z : Inner × List ℕ) × (r ≡ Some z) × ((length z.1 < length x) ⊎ (z ≡ (f, x)))

same : (x : List ℕ) (f : Inner) → ReachesInner x f (inner_read f x)
same x f = ((f, x), refl, inr refl)

abbrev noted : Option (NoteForm × List ℕ) → ReadInner
noted r = option_map (λ (z : NoteForm × List ℕ). (note_inside z.0, z.1)) r

by_sign : (bang : Bool) (sign : Option Alter) (low : Bool) (l : Letter) (t : List ℕ) →
    let s = sign_then sign (letter_byte low l ∷ t) in inner_at bang s ≡ noted (note_at s)
unfolding inner_at item_class
by_sign bang (Some Sharp2) low l t = refl
by_sign bang None false C t = refl
by_sign bang None _ C t = refl
by_sign bang _ _ _ t = refl

note-reaches : (f : NoteForm) (x : List ℕ) → IsNote f → ReachesInner x (note_inside f) (noted (note_at (note_then f x)))
note-reaches f x good =
    let r = note_at-reaches f x good in (
      (note_inside r.0.0, r.0.1),
      ap noted r.1,
      elim r.2 [ inl shorter ↦ inl shorter.0 | inr is ↦ inr (ap (λ z. (note_inside z.0, z.1)) is) ],
    )

letter_at : (bang : Bool) (b : ℕ) (x : List ℕ)
    → is_deco_letter b ≡ true → inner_at bang (b ∷ x) ≡ inner_read (letter_inside b) x
unfolding inner_at item_class
letter_at bang b x h =
    let letters = 126 ∷ 72 ∷ 76 ∷ 77 ∷ 79 ∷ 80 ∷ 83 ∷ 84 ∷ 117 ∷ 118 ∷ [] in
    one_of_each (λ k. inner_at bang (k ∷ x) ≡ inner_read (letter_inside k) x) letters b (search rules) h

passed_at : (bang : Bool) (b : ℕ) (x : List ℕ)
    → is_passed_inside b ≡ true → inner_at bang (b ∷ x) ≡ inner_read (passed_inside b) x
unfolding inner_at item_class
passed_at bang b x h =
    one_of_each (λ k. inner_at bang (k ∷ x) ≡ inner_read (passed_inside k) x) (32 ∷ 9 ∷ 40 ∷ 41 ∷ []) b (search rules) h

pub bang_at : (bang : Bool) (s : List ℕ) → bang ≡ false → inner_at bang (33 ∷ s) ≡ named_or (name_at s) s
unfolding inner_at item_class
bang_at bang s off = rw off refl

dot-reaches : (x : List ℕ) → ReachesInner x (letter_inside 46) (dot_inside x)
dot-reaches [] = same [] (letter_inside 46)
dot-reaches (b ∷ x) =
    let P : ReadInner → Type 0 = ReachesInner (b ∷ x) (letter_inside 46) in
    cond_both (eqb b 40) _ _ P (λ e. ((slur_inside, x), refl, inl (omega arith))) (λ e.
    cond_both (eqb b 45) _ _ P (λ f. ((tie_inside true, x), refl, inl (omega arith)))
    (λ f. same (b ∷ x) (letter_inside 46)))

lone-reaches : (x : List ℕ) (r : Option (List ℕ × List ℕ)) → IfSome r (λ z. IsName z.0 × (x ≡ z.0 ++ (33 ∷ z.1))) →
    ReachesInner x lone_inside (named_or r x)
lone-reaches x None t = same x lone_inside
lone-reaches x (Some z) t =
    ((named_inside z.0, z.1), refl, inl (omega (arith, ap length t.1, length-append z.0 (33 ∷ z.1))))

pub inner_at-reaches : (bang : Bool) (f : Inner) (x : List ℕ)
    → IsInner bang f → ReachesInner x f (inner_at bang (inner_then f x))
unfolding inner_at item_class
inner_at-reaches bang (note_inside f) x good =
    rw (by_sign bang f.sign f.low f.letter (f.marks ++ length_then f.length x)) (note-reaches f x good)
inner_at-reaches bang (letter_inside b) x good = elim (or_cases (eqb b 46) (is_deco_letter b) good) [
  | inl dot ↦ rw (eqb-true b 46 dot) (dot-reaches x)
  | inr letter ↦ rw (letter_at bang b x letter) (same x (letter_inside b))
]
inner_at-reaches bang (named_inside n) x good =
    rw (bang_at bang (n ++ (33 ∷ x)) good.0, name_at-reads n x good.1) (same x (named_inside n))
inner_at-reaches bang (tie_inside true) x good = same x (tie_inside true)
inner_at-reaches bang (tie_inside false) x good = same x (tie_inside false)
inner_at-reaches bang slur_inside x good = same x slur_inside
inner_at-reaches bang (passed_inside b) x good = rw (passed_at bang b x good) (same x (passed_inside b))
inner_at-reaches bang lone_inside x good = rw (bang_at bang x good) (lone-reaches x (name_at x) (name_at-takes x))
