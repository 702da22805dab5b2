-- Parts at the start of a text that goes on, and of the same text cut off.
use Rattle.std.proofs.Common.{◌≡◌, ◌⊎◌, ℕ, zero, suc, ◌≤◌, ◌<◌, Bool, true, false, cond, eqb, List, [], ◌∷◌, ◌++◌}
use Rattle.std.proofs.Common.{length, drop, Option, Some, None}
use Rattle.std.proofs.Common.{refl, sym, ap, ◌∙◌, subst, arith, inl, inr, append_assoc, append-nil, ◌&&◌, not}
use Rattle.std.proofs.Common.{length-append, option_map}
use Rattle.std.proofs.lemmas.Bool.{both_ways, false_from_ne_true, cases_lt, or_cases, and_parts, and_from, eqb-true}
use Rattle.std.proofs.lemmas.Bool.{eqb-false, ne_eqb, not-false}
use Rattle.std.proofs.{lemmas.List.Folds.list_all-append, lemmas.List.{append_cancel_right, drop-append-le}}
use Rattle.std.proofs.{lemmas.Option.{cond_some, some_pair_parts}, Math.Seq.drop-append_seam}
use Rattle.abc_notes.specs.Items.{Inner, note_inside, letter_inside, named_inside, tie_inside, passed_inside}
use Rattle.abc_notes.specs.Items.{lone_inside, inner_then, IsName}
use Rattle.abc_notes.specs.Items.{IsInner, StandsInside, InnerParts, closed_name, name_at, inner_at}
use Rattle.abc_notes.specs.Runs.{copies, maybe, is_mark, span_all}
use Rattle.abc_notes.specs.Runs.{begins}
use Rattle.abc_notes.specs.Decorations.{is_name_byte}
use Rattle.abc_notes.specs.Lengths.{LengthForm, whole, over, halved, length_then, IsWrittenLength}
use Rattle.abc_notes.specs.Notes.{NoteForm, note_then, sign_then, letter_byte, IsNote}
use Rattle.abc_notes.specs.Parts.{IsLongest, no_part, then_part, LeadsByParts, leads_here}
use Rattle.abc_notes.specs.Parts.{leads_on, walk, spelled_then}
use Rattle.abc_notes.proofs.Bounds.{digit_range}
use Rattle.abc_notes.proofs.SpanLaws.{span_all-append, span_all-stops, span_all-takes, span_all-pass, span_all-after}
use Rattle.abc_notes.proofs.LengthLaws.{copies_append, count-digits}
use Rattle.abc_notes.proofs.ItemLaws.{one_of_all, bang_at}
use Rattle.abc_notes.proofs.PartLaws.{Reader, longest_is, stands_at}
use Rattle.abc_notes.proofs.PartLaws.{by_parts, longest_of, walk-none, walk-some}
use Rattle.std.specs.List.{list_all}
use Rattle.mus_units.specs.declared.pitch.Alter.{Alter}
use Rattle.mus_units.specs.declared.pitch.Alter.TheVariants.{Sharp2}
use Rattle.mus_units.specs.declared.pitch.Letter.{Letter}
use Rattle.mus_units.specs.declared.pitch.Letter.TheVariants.{C}
use Rattle.mus_units.specs.Bytes.{is_digit}

-- ---- a part and what follows it
pub maybe_append : (d : Bool) (b : ℕ) (v y : List ℕ) → maybe d b v ++ y ≡ maybe d b (v ++ y)
maybe_append true b v y = refl
maybe_append false b v y = refl

pub length_append : (f : LengthForm) (v y : List ℕ) → length_then f v ++ y ≡ length_then f (v ++ y)
length_append (whole c) v y = append_assoc c v y
length_append (over c b) v y = simp append_assoc
length_append (halved c k) v y = simp (append_assoc, copies_append)

pub sign_append : (sign : Option Alter) (v y : List ℕ) → sign_then sign v ++ y ≡ sign_then sign (v ++ y)
sign_append (Some Sharp2) v y = refl
sign_append _ v y = refl

note_append : (f : NoteForm) (v y : List ℕ) → note_then f v ++ y ≡ note_then f (v ++ y)
note_append f v y = simp (sign_append, append_assoc, length_append)

pub inner_append : (f : Inner) (v y : List ℕ) → inner_then f v ++ y ≡ inner_then f (v ++ y)
inner_append (note_inside f) v y = note_append f v y
inner_append (named_inside name) v y = simp append_assoc
inner_append (tie_inside d) v y = maybe_append d 46 (45 ∷ v) y
inner_append _ v y = refl

-- ---- two cuts of one text
pub record Cut (u w y x : List ℕ) : Type 0 where
  pub between : List ℕ
  pub following : x ≡ between ++ y
  pub prefix : u ≡ w ++ between

pub first_same : {a b : ℕ} {s t : List ℕ} → a ∷ s ≡ b ∷ t → a ≡ b
first_same e = cc

pub rest_same : {a b : ℕ} {s t : List ℕ} → a ∷ s ≡ b ∷ t → s ≡ t
rest_same e = cc

pub cut_at : (u w y x : List ℕ) → u ++ y ≡ w ++ x → length y ≤ length x → Cut u w y x
cut_at u [] y x e h = record { between = u; following = sym e; prefix = refl }
cut_at [] (b ∷ w) y x e h = absurd (omega (arith, h, ap length e, length-append w x))
cut_at (a ∷ u) (b ∷ w) y x e h =
    let r = cut_at u w y x (rest_same e) h in
    record {
      between = r.between;
      following = r.following;
      prefix = ap (λ c. c ∷ u) (first_same e) ∙ ap (λ s. b ∷ s) r.prefix;
    }

-- they are one cut, or there are some bytes between them
pub cut_cases : {P : Type 0} (u w y x : List ℕ) → u ++ y ≡ w ++ x → length y ≤ length x → (u ≡ w → x ≡ y → P) →
    ((b : ℕ) (m : List ℕ) → u ≡ w ++ (b ∷ m) → x ≡ b ∷ (m ++ y) → P) → P
cut_cases {P} u w y x e h here apart = let c = cut_at u w y x e h in by_between c.between c.prefix c.following
  where
    by_between : (m : List ℕ) → u ≡ w ++ m → x ≡ m ++ y → P
    by_between [] prefix following = here (prefix ∙ append-nil w) following
    by_between (b ∷ m) prefix following = apart b m prefix following

-- ---- parts that may come before any text
pub record Local (I : Type 0) (Stands : I → List ℕ → List ℕ → Type 0) (one : I → List ℕ → List ℕ) : Type 0 where
  pub spells : (f : I) (s x : List ℕ) → Stands f s x → s ≡ one f x
  pub moves : (f : I) (s x t y : List ℕ) → Stands f s x → t ≡ one f y → Stands f t y
  pub appends : (f : I) (v y : List ℕ) → one f v ++ y ≡ one f (v ++ y)

pub inner_local : (bang : Bool) → Local Inner (StandsInside bang) inner_then
inner_local bang = record {
  spells = λ f s x stands. stands.cut;
  moves = λ f s x t y stands e. record { good = stands.good; cut = e };
  appends = inner_append;
}

module _
    {I : Type 0} {Stands : I → List ℕ → List ℕ → Type 0} {at : List ℕ → Option (I × List ℕ)} {one : I → List ℕ → List ℕ}
    (r : Reader I Stands at) (k : Local I Stands one) where
  pub record AtCut (u y : List ℕ) (z : I × List ℕ) : Type 0 where
    pub prefix : List ℕ
    pub following : z.1 ≡ prefix ++ y
    pub at_cut : at u ≡ Some (z.0, prefix)

  -- a part at the start of a text is also at the start if the text goes on
  pub moved : (part : I) (u v y : List ℕ) → Stands part u v → Stands part (u ++ y) (v ++ y)
  moved part u v y stands =
      k.moves part u v (u ++ y) (v ++ y) stands (ap (λ s. s ++ y) (k.spells part u v stands) ∙ k.appends part v y)

  -- a part that ends before the cut is also read from the text cut off
  pub read_cut : (u y : List ℕ) (z : I × List ℕ) → at (u ++ y) ≡ Some z → length y ≤ length z.1 → AtCut u y z
  read_cut u y z e h =
      let stands = stands_at r (u ++ y) z e in
      let spelt : u ++ y ≡ one z.0 [] ++ z.1 = k.spells z.0 (u ++ y) z.1 stands ∙ sym (k.appends z.0 [] z.1) in
      let c = cut_at u (one z.0 []) y z.1 spelt h in
      let here : u ≡ one z.0 c.between = c.prefix ∙ k.appends z.0 [] c.between in
      let o = r.reaches z.0 u c.between (k.moves z.0 (u ++ y) z.1 u c.between stands here) in
      elim o.2 [
        | inl shorter ↦
            (let longest =
            (longest_of r (u ++ y) z e).longest o.0.0 (o.0.1 ++ y) (moved o.0.0 u o.0.1 y (stands_at r u o.0 o.1)) in
            absurd (omega
            (arith, shorter, longest, length-append o.0.1 y, ap length c.following, length-append c.between y)))
        | inr same ↦ record { prefix = c.between; following = c.following; at_cut = o.1 ∙ ap Some same }
      ]

  -- up to the cut
  pub read_upto : (u y prefix : List ℕ) (z : I × List ℕ)
      → at (u ++ y) ≡ Some z → z.1 ≡ prefix ++ y → at u ≡ Some (z.0, prefix)
  read_upto u y prefix z e following =
      let a = read_cut u y z e (omega (arith, ap length following, length-append prefix y)) in
      a.at_cut
      ∙ ap (λ (x : List ℕ). Some (z.0, x)) (append_cancel_right a.prefix prefix y (sym a.following ∙ following))

  -- a part and the text after it, which is cut off
  pub joined_cut : (text c prefix : List ℕ) (z : I × List ℕ) → at text ≡ Some z → z.1 ≡ prefix ++ c →
      (text ≡ one z.0 prefix ++ c) × (at (one z.0 prefix) ≡ Some (z.0, prefix))
  joined_cut text c prefix z e following =
      let cut = k.spells z.0 text z.1 (stands_at r text z e) ∙ ap (one z.0) following ∙ sym (k.appends z.0 prefix c) in
      (cut, read_upto (one z.0 prefix) c prefix z (ap at (sym cut) ∙ e) following)

  -- if a text goes on, its part is read as before, or one is read that ends after the cut
  pub read_on : (part : I) (u v y : List ℕ) → IsLongest I Stands u part v →
      (at (u ++ y) ≡ Some (part, v ++ y)) ⊎ ((z : I × List ℕ) × (at (u ++ y) ≡ Some z) × (length z.1 < length y))
  read_on part u v y l =
      let o = r.reaches part (u ++ y) (v ++ y) (moved part u v y l.stands) in
      elim o.2 [
        | inr same ↦ inl (o.1 ∙ ap Some same)
        | inl shorter ↦ elim (cases_lt (length o.0.1) (length y)) [
          | inl past ↦ inr (o.0, o.1, past)
          | inr before ↦
              (let a = read_cut u y o.0 o.1 before in
              let same = (some_pair_parts o.0.0 part a.prefix v (sym a.at_cut ∙ longest_is r u part v l)).1 in
              absurd (omega
              (arith, shorter, ap length a.following, length-append a.prefix y, length-append v y, ap length same)))
        ]
      ]

  -- the parts read from a text, and the rest, spell the text
  pub walk_spells : (s : List ℕ) → spelled_then one (walk at s).0 (walk at s).1 ≡ s
  walk_spells = by_parts r (λ s. spelled_then one (walk at s).0 (walk at s).1 ≡ s)
      (λ s e. rw (walk-none r s e) refl)
      (λ s z e next. rw (walk-some r s z e) (ap (one z.0) next ∙ sym (k.spells z.0 s z.1 (stands_at r s z e))))

  -- the parts read from a text lead up to what is left
  pub leads_of_walk : (s : List ℕ) → LeadsByParts I Stands s (walk at s).0 (walk at s).1
  leads_of_walk = by_parts r (λ s. LeadsByParts I Stands s (walk at s).0 (walk at s).1)
      (λ s e. rw (walk-none r s e) (leads_here s))
      (λ s z e next.
      rw (walk-some r s z e) (leads_on s z.0 z.1 (walk at z.1).0 (walk at z.1).1 (longest_of r s z e) next))

-- ---- the bytes of a part that is no name close no group
pub wider : (p q : ℕ → Bool) (s : List ℕ)
    → ((b : ℕ) → p b ≡ true → q b ≡ true) → list_all p s ≡ true → list_all q s ≡ true
wider p q [] k h = refl
wider p q (b ∷ s) k h =
    let r = and_parts (p b) (list_all p s) h in and_from (q b) (list_all q s) (k b r.0) (wider p q s k r.1)

pub all_join : (q : ℕ → Bool) (a x : List ℕ) → list_all q a ≡ true → list_all q x ≡ true → list_all q (a ++ x) ≡ true
all_join q a x h k = list_all-append q a x ∙ and_from (list_all q a) (list_all q x) h k

pub all_parts : (q : ℕ → Bool) (a x : List ℕ)
    → list_all q (a ++ x) ≡ true → (list_all q a ≡ true) × (list_all q x ≡ true)
all_parts q a x h = and_parts (list_all q a) (list_all q x) (sym (list_all-append q a x) ∙ h)

abbrev pub free : ℕ → Bool
free b = not (eqb b 93) && not (eqb b 125)

letter_free : (low : Bool) (l : Letter) → free (letter_byte low l) ≡ true
letter_free false C = refl
letter_free _ C = refl
letter_free _ _ = refl

copies_free : (n : ℕ) → list_all free (copies n 47 []) ≡ true
copies_free zero = refl
copies_free (suc n) = copies_free n

digits_free : (ds : List ℕ) → list_all is_digit ds ≡ true → list_all free ds ≡ true
digits_free ds h =
    wider is_digit free ds
    (λ b digit. let r = digit_range b digit in rw (ne_eqb b 93 (omega arith), ne_eqb b 125 (omega arith)) refl) h

mark_free : (b : ℕ) → is_mark b ≡ true → free b ≡ true
mark_free b h =
    elim (or_cases (eqb b 39) (eqb b 44) h) [ inl e ↦ rw (eqb-true b 39 e) refl | inr e ↦ rw (eqb-true b 44 e) refl ]

pub length_free : (f : LengthForm) → IsWrittenLength f → list_all free (length_then f []) ≡ true
length_free (whole c) good = all_join free c [] (digits_free c (count-digits 4 c good)) refl
length_free (over c b) good =
    all_join free c (47 ∷ (b ++ [])) (digits_free c (count-digits 4 c good.0))
    (all_join free b [] (digits_free b good.1.digits) refl)
length_free (halved c k) good =
    all_join free c (copies k 47 []) (digits_free c (count-digits 4 c good.0)) (copies_free k)

-- such bytes contain no closing byte
free_past : (close : ℕ) (s rest m t : List ℕ)
    → free close ≡ false → list_all free s ≡ true → s ++ rest ≡ m ++ (close ∷ t)
    → length rest < length (close ∷ t) → ⊥
free_past close s rest m t closes all e short =
    cut_cases s m rest (close ∷ t) e (omega (arith, short))
    (λ prefix following. omega (arith, short, ap length following))
    (λ b bs prefix following.
    let here = (all_parts free m (b ∷ bs) (ap (list_all free) (sym prefix) ∙ all)).1 in
    both_ways (free b) (ap free (sym (first_same following)) ∙ closes) (and_parts (free b) (list_all free bs) here).0)

pub length_past : (close : ℕ) (l : LengthForm) (rest m t : List ℕ)
    → free close ≡ false → IsWrittenLength l → length_then l rest ≡ m ++ (close ∷ t)
    → length rest < length (close ∷ t) → ⊥
length_past close l rest m t closes good e =
    free_past close (length_then l []) rest m t closes (length_free l good) (length_append l [] rest ∙ e)

sign_free : (sign : Option Alter) (x : List ℕ) → list_all free x ≡ true → list_all free (sign_then sign x) ≡ true
sign_free (Some Sharp2) x h = h
sign_free _ x h = h

note_free : (f : NoteForm) → IsNote f → list_all free (note_then f []) ≡ true
note_free f good =
    let b = letter_byte f.low f.letter in let t = length_then f.length [] in
    let marks = wider is_mark free f.marks mark_free good.marks in
    let following = all_join free f.marks t marks (length_free f.length good.length) in
    sign_free f.sign (b ∷ (f.marks ++ t))
    (and_from (free b) (list_all free (f.marks ++ t)) (letter_free f.low f.letter) following)

abbrev pub is_named : Inner → Bool
is_named (named_inside name) = true
is_named _ = false

pub inner_free : (bang : Bool) (f : Inner)
    → IsInner bang f → is_named f ≡ false → list_all free (inner_then f []) ≡ true
inner_free bang (note_inside f) good h = note_free f good
inner_free bang (letter_inside b) good h =
    rw (one_of_all free (46 ∷ 126 ∷ 72 ∷ 76 ∷ 77 ∷ 79 ∷ 80 ∷ 83 ∷ 84 ∷ 117 ∷ 118 ∷ []) b refl good) refl
inner_free bang (named_inside name) good h = absurd cc
inner_free bang (passed_inside b) good h = rw (one_of_all free (32 ∷ 9 ∷ 40 ∷ 41 ∷ []) b refl good) refl
inner_free bang (tie_inside true) good h = refl
inner_free bang _ good h = refl

pub all_span : (p : ℕ → Bool) (s : List ℕ) → list_all p s ≡ true → span_all p s ≡ (s, [])
unfolding span_all
all_span p s h = rw append-nil at (span_all-append p s [] h)

unnamed : (s : List ℕ) → closed_name s [] ≡ None
unnamed [] = refl
unnamed (b ∷ s) = refl

-- if a name is not closed, the exclamation mark is alone
pub lone_at : (bang : Bool) (s : List ℕ)
    → bang ≡ false → list_all is_name_byte s ≡ true → inner_at bang (33 ∷ s) ≡ Some (lone_inside, s)
unfolding name_at
lone_at bang s off h = rw (bang_at bang s off, all_span is_name_byte s h, unnamed s) refl

-- ---- a part that goes past a closing byte is a name; without the name, an exclamation mark is skipped
pub record Crosses (bang : Bool) (close : ℕ) (u t rest : List ℕ) : Type 0 where
  pub before : List ℕ
  pub after : List ℕ
  pub off : bang ≡ false
  pub name : IsName (before ++ (close ∷ after))
  pub lone : inner_at bang u ≡ Some (lone_inside, before)
  pub spelled : u ++ (close ∷ t) ≡ 33 ∷ ((before ++ (close ∷ after)) ++ (33 ∷ rest))
  pub tail : close ∷ (after ++ (33 ∷ rest)) ≡ close ∷ t

named_crosses : (bang : Bool) (close : ℕ) (name u t rest : List ℕ) → eqb close 33 ≡ false → bang ≡ false → IsName name →
    33 ∷ (name ++ (33 ∷ rest)) ≡ u ++ (close ∷ t) → length rest < length (close ∷ t) → Crosses bang close u t rest
named_crosses bang close name [] t rest other off good e short = absurd (eqb-false close 33 other (sym (first_same e)))
named_crosses bang close name (b ∷ u) t rest other off good e short =
    cut_cases name u (33 ∷ rest) (close ∷ t) (rest_same e) (omega (arith, short))
    (λ prefix following. absurd (eqb-false close 33 other (first_same following)))
    (λ c after prefix following.
    let is : name ≡ u ++ (close ∷ after) = prefix ∙ ap (λ x. u ++ (x ∷ after)) (sym (first_same following)) in
    let named = subst IsName is good in
    record {
      before = u;
      after = after;
      off = off;
      name = named;
      lone =
          ap (λ x. inner_at bang (x ∷ u)) (sym (first_same e))
          ∙ lone_at bang u off (all_parts is_name_byte u (close ∷ after) named.bytes).0;
      spelled = sym e ∙ ap (λ (n : List ℕ). 33 ∷ (n ++ (33 ∷ rest))) is;
      tail = ap (λ x. close ∷ x) (sym (rest_same following));
    })

-- the part ends after the closing byte
pub crossing : (bang : Bool) (close : ℕ) (f : Inner) (u t rest : List ℕ)
    → free close ≡ false → eqb close 33 ≡ false → IsInner bang f
    → u ++ (close ∷ t) ≡ inner_then f rest → length rest < length (close ∷ t) → Crosses bang close u t rest
crossing bang close (named_inside name) u t rest closes other good e short =
    named_crosses bang close name u t rest other good.0 good.1 (sym e) short
crossing bang close f u t rest closes other good e short =
    absurd (free_past close (inner_then f []) rest u t closes (inner_free bang f good refl)
    (inner_append f [] rest ∙ sym e) short)

-- ---- up to the first closing byte
abbrev pub two : List ℕ → List ℕ → List ℕ × List ℕ
two a b = (a, b)

-- nothing is left if nothing was cut off
pub none_left : (p : ℕ → Bool) (s w r : List ℕ) → two w r ≡ span_all p s → length r ≡ 0 → list_all p s ≡ true
none_left p s w [] cut none =
    let whole = rw (← cut, append-nil) at (span_all-takes p s) in rw whole (rw (← cut) at (span_all-pass p s))
none_left p s w (b ∷ r) cut none = absurd (omega (arith, none))

pub some_left : (p : ℕ → Bool) (s w r : List ℕ) → two w r ≡ span_all p s → (length r ≡ 0 → ⊥) → list_all p s ≡ false
some_left p s w r cut some =
    false_from_ne_true (list_all p s) (λ e. some (ap (λ (z : List ℕ × List ℕ). length z.1) (cut ∙ all_span p s e)))

pub first_close : (close : ℕ) (t : List ℕ) → begins (λ b. eqb b close) t ≡ true → (rest : List ℕ) × (t ≡ close ∷ rest)
first_close close [] h = absurd cc
first_close close (b ∷ t) h = (t, ap (λ x. x ∷ t) (eqb-true b close h))

pub cond_then : {A : Type 0} (b : Bool) (x : Option A) (y : A) → cond b x None ≡ Some y → (b ≡ true) × (x ≡ Some y)
cond_then true x y e = (refl, e)
cond_then false x y e = absurd cc

-- the text from the first closing byte in a name on, if what comes before that byte passes
abbrev pub name_upto : ℕ → (List ℕ → Bool) → List ℕ → List ℕ × List ℕ → Option (List ℕ)
name_upto close passes text named =
    let inside = span_all (λ b. not (eqb b close)) named.0 in
    cond {A = Option (List ℕ)} (not (eqb (length inside.1) 0) && passes inside.0) (Some (drop (length inside.0) text))
    None

pub record NameCut (close : ℕ) (passes : List ℕ → Bool) (s c : List ℕ) : Type 0 where
  pub before : List ℕ
  pub rest : List ℕ
  pub is : c ≡ close ∷ rest
  pub cut : s ≡ before ++ c
  pub names : list_all is_name_byte before ≡ true
  pub good : passes before ≡ true

name_end : (close : ℕ) (w : List ℕ)
    → not (eqb (length w) 0) ≡ true → begins (λ b. not (eqb b close)) w ≡ false → (t : List ℕ) × (w ≡ close ∷ t)
name_end close [] some stops = absurd cc
name_end close (b ∷ w) some stops = (w, ap (λ x. x ∷ w) (eqb-true b close (not-false (eqb b close) stops)))

pub name_upto-closes : (close : ℕ) (passes : List ℕ → Bool) (s c : List ℕ) (named : List ℕ × List ℕ) →
    IsName named.0 × (s ≡ named.0 ++ (33 ∷ named.1))
    → name_upto close passes s named ≡ Some c → NameCut close passes s c
name_upto-closes close passes s c named t e =
    let p = λ (b : ℕ). not (eqb b close) in let inside = span_all p named.0 in
    let found = cond_some _ _ _ e in let both = and_parts _ _ found.0 in
    let end = name_end close inside.1 both.0 (span_all-after p named.0) in
    let whole : named.0 ≡ inside.0 ++ (close ∷ end.0) = span_all-takes p named.0 ∙ ap (λ x. inside.0 ++ x) end.1 in
    let cut : s ≡ inside.0 ++ (close ∷ (end.0 ++ (33 ∷ named.1))) =
    t.1 ∙ ap (λ x. x ++ (33 ∷ named.1)) whole ∙ append_assoc inside.0 _ _ in
    let is = sym found.1 ∙ ap (drop (length inside.0)) cut ∙ drop-append_seam inside.0 _ in
    record {
      before = inside.0;
      rest = end.0 ++ (33 ∷ named.1);
      is = is;
      cut = cut ∙ ap (λ x. inside.0 ++ x) (sym is);
      names = (all_parts is_name_byte inside.0 (close ∷ end.0) (ap (list_all is_name_byte) (sym whole) ∙ t.0.bytes)).0;
      good = both.1;
    }

pub name_upto-found : (close : ℕ) (passes : List ℕ → Bool) (before after rest : List ℕ) → eqb close close ≡ true →
    list_all (λ b. not (eqb b close)) before ≡ true → passes before ≡ true → let name = before ++ (close ∷ after) in
    name_upto close passes (name ++ (33 ∷ rest)) (name, rest) ≡ Some (close ∷ (after ++ (33 ∷ rest)))
name_upto-found close passes before after rest same clear good =
    let p = λ (b : ℕ). not (eqb b close) in let stops = span_all-stops p (close ∷ after) (rw same refl) in
    let some = ne_eqb (suc (length after)) 0 (omega arith) in
    rw (span_all-append p before (close ∷ after) clear, stops, append-nil, good, some, append_assoc, drop-append_seam)
    refl

cond_map : (c : Bool) (a b x : List ℕ) → a ≡ b ++ x →
    cond {A = Option (List ℕ)} c (Some a) None ≡ option_map (λ m. m ++ x) (cond {A = Option (List ℕ)} c (Some b) None)
cond_map true a b x e = ap Some e
cond_map false a b x e = refl

-- it is the same whatever follows the name
pub name_upto-append : (close : ℕ) (passes : List ℕ → Bool) (name x : List ℕ) →
    name_upto close passes (name ++ (33 ∷ x)) (name, x)
    ≡ option_map (λ m. m ++ x) (name_upto close passes (name ++ (33 ∷ [])) (name, []))
name_upto-append close passes name x =
    let p = λ (b : ℕ). not (eqb b close) in
    let inside = span_all p name in
    let n = length inside.0 in
    let whole = name ++ (33 ∷ []) in
    let short : n ≤ length whole =
    omega (arith, ap length (span_all-takes p name), length-append inside.0 inside.1, length-append name (33 ∷ [])) in
    cond_map (not (eqb (length inside.1) 0) && passes inside.0) _ (drop n whole) x
    (ap (drop n) (sym (append_assoc name (33 ∷ []) x)) ∙ drop-append-le n whole x short)

-- a part in a name is no name
pub not_named : (f : Inner) (rest : List ℕ) → list_all is_name_byte (inner_then f rest) ≡ true → is_named f ≡ false
not_named (named_inside name) rest h = absurd cc
not_named _ rest h = refl

-- parts in a name close no group
pub clear_parts : (bang : Bool) (s : List ℕ) (parts : List Inner)
    → InnerParts bang s parts → list_all is_name_byte s ≡ true → list_all free s ≡ true
clear_parts bang _ _ no_part h = refl
clear_parts bang _ _ (then_part text part rest more l others) h =
    let one = inner_then part [] in let cut : text ≡ one ++ rest = l.stands.cut ∙ sym (inner_append part [] rest) in
    let names = all_parts is_name_byte one rest (ap (list_all is_name_byte) (sym cut) ∙ h) in
    rw cut (all_join free one rest (inner_free bang part l.stands.good (not_named part [] names.0))
    (clear_parts bang rest more others names.1))
