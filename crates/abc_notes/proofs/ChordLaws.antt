-- Reading a chord gives the longest one; if there is none, its fault is found.
use Rattle.std.proofs.Common.{◌≡◌, ℕ, ◌+◌, ◌-◌, ◌≤◌, ◌<◌, Bool, true, false, eqb, List, [], ◌∷◌, ◌++◌, length, take}
use Rattle.std.proofs.Common.{Option, Some, None, refl, sym}
use Rattle.std.proofs.Common.{ap, ◌∙◌, subst, arith, inl, inr, ◌⊎◌, add-one, ◌&&◌, ◌||◌, not, IfSome}
use Rattle.std.proofs.lemmas.Bool.{and_parts, eqb-true, both_ways}
use Rattle.std.proofs.lemmas.Bool.{false_from_ne_true, cases_lt, cond-true, not-true, not_from_false, or_left, or_right}
use Rattle.std.proofs.lemmas.List.{length-append, nil_from_length}
use Rattle.std.proofs.lemmas.Option.{cond_some, some_pair_parts}
use Rattle.std.proofs.Math.Seq.{take-append_seam}
use Rattle.std.proofs.Math.Bool.{or-false, or_assoc}
use Rattle.abc_notes.specs.Chords.{ChordForm, InnerLeads, is_inside, is_bracket, has_inner_head, chord_then, IsChord}
use Rattle.abc_notes.specs.Chords.{ChordFault, chord_unclosed}
use Rattle.abc_notes.specs.Chords.{chord_open, chord_headless, chord_flawed, bracket_here, bracket_in, bracket_in_name}
use Rattle.abc_notes.specs.Chords.{last_bracket, bracket_at}
use Rattle.abc_notes.specs.Chords.{chord_from, chord_at}
use Rattle.abc_notes.specs.declared.part.Flaw.{Flaw}
use Rattle.abc_notes.specs.Runs.{span_all, begins}
use Rattle.abc_notes.specs.Lengths.{LengthForm, length_then}
use Rattle.abc_notes.specs.Lengths.{IsWrittenLength, length_from}
use Rattle.abc_notes.specs.Parts.{HasNone, no_part, then_part, walk, is_done, spelled_then, later_or}
use Rattle.abc_notes.specs.Items.{Inner, lone_inside, inner_then, IsName, StandsInside, has_length, InnerParts}
use Rattle.abc_notes.specs.Items.{InnerFlawed, name_at, item_class}
use Rattle.abc_notes.specs.{Items.inner_at, Decorations.is_name_byte}
use Rattle.abc_notes.proofs.CutLaws.{two, none_left, some_left, first_close, length_past, read_on, inner_local}
use Rattle.abc_notes.proofs.CutLaws.{joined_cut, walk_spells}
use Rattle.abc_notes.proofs.CutLaws.{leads_of_walk, free, wider, crossing, lone_at, clear_parts, all_parts, cut_cases}
use Rattle.abc_notes.proofs.CutLaws.{first_same, rest_same}
use Rattle.abc_notes.proofs.CutLaws.{cond_then, NameCut, name_upto, name_upto-closes, name_upto-found}
use Rattle.abc_notes.proofs.LengthLaws.{length_at-takes, length_at-reaches}
use Rattle.abc_notes.proofs.ItemLaws.{name_at-takes, name_at-reads}
use Rattle.abc_notes.proofs.PartLaws.{Reader, stands_at}
use Rattle.abc_notes.proofs.PartLaws.{less, by_parts, stops_at, longest_of, none_of, longest_is, walk-none, walk-some}
use Rattle.abc_notes.proofs.PartLaws.{parts_of_walk, walk_of_parts}
use Rattle.abc_notes.proofs.InnerLaws.{inner_reader, length-length_then}
use Rattle.abc_lines.specs.declared.fault.FaultKind.TheVariants.{BadByte, Unclosed}

pub cut_off : (s prefix c : List ℕ) → s ≡ prefix ++ c → take (length s - length c) s ≡ prefix
cut_off s prefix c cut =
    let n : length s - length c ≡ length prefix = omega (arith, ap length cut, length-append prefix c) in
    rw n (ap (take (length prefix)) cut ∙ take-append_seam prefix c)

pub later_assoc : (a b c : Option (List ℕ)) → later_or (later_or a b) c ≡ later_or a (later_or b c)
later_assoc None b c = refl
later_assoc (Some a) b c = refl

pub later_none : (a : Option (List ℕ)) → later_or a None ≡ a
later_none None = refl
later_none (Some a) = refl

-- an exclamation mark that is skipped
abbrev pub is_lone : Inner → Bool
is_lone lone_inside = true
is_lone _ = false

abbrev pub has_lone : List Inner → Bool
has_lone [] = false
has_lone (part ∷ more) = is_lone part || has_lone more

pub chord-longer : (f : ChordForm) (x : List ℕ) → length x < length (chord_then f x)
chord-longer f x = omega (arith, length-append f.inside (93 ∷ length_then f.length x), length-length_then f.length x)

inside_wide : (b : ℕ) → free b ≡ true → is_inside b ≡ true
inside_wide b h = (and_parts _ _ h).0

-- a bracket after another bracket comes after the length there
after_length : (l : LengthForm) (x inside prefix rest : List ℕ)
    → IsWrittenLength l → inside ++ (93 ∷ length_then l x) ≡ prefix ++ (93 ∷ rest)
    → length (93 ∷ rest) < length (93 ∷ length_then l x) → length rest < length x
after_length l x inside prefix rest good e shorter =
    cut_cases prefix inside (93 ∷ rest) (93 ∷ length_then l x) (sym e) (omega (arith, shorter))
    (λ same following. absurd (omega (arith, shorter, ap length following)))
    (λ b m same following. elim (cases_lt (length x) (length (93 ∷ rest))) [
      | inr near ↦ omega (arith, near)
      | inl far ↦ absurd (length_past 93 l x m rest refl good (rest_same following) far)
    ])

module _ (bang : Bool) where
  abbrev reader : Reader Inner (StandsInside bang) (inner_at bang)
  reader = inner_reader bang

  -- ---- a found bracket closes good parts with a head
  pub record Closed (head : Bool) (text c : List ℕ) : Type 0 where
    pub prefix : List ℕ
    pub rest : List ℕ
    pub parts : List Inner
    pub is : c ≡ 93 ∷ rest
    pub cut : text ≡ prefix ++ c
    pub good : InnerParts bang prefix parts
    pub has : (head || has_inner_head parts) ≡ true

  here-closes : (head : Bool) (text c : List ℕ) → bracket_here head text ≡ Some c → Closed head text c
  here-closes head [] c e = absurd cc
  here-closes head (b ∷ s) c e =
      let found = cond_some _ _ _ e in let p = and_parts _ _ found.0 in
      let is = sym found.1 ∙ ap (λ x. x ∷ s) (eqb-true b 93 p.0) in
      record { prefix = []; rest = s; parts = []; is = is; cut = found.1; good = no_part; has = or-false head ∙ p.1 }

  -- in a name whose exclamation mark is skipped
  abbrev pub good_before : Bool → List ℕ → Bool
  good_before head t = let w = walk (inner_at bang) t in is_done w && (head || has_inner_head w.0)

  pub record NameClosed (head : Bool) (text c : List ℕ) : Type 0 where
    pub following : List ℕ
    pub is : text ≡ 33 ∷ following
    pub off : bang ≡ false
    pub name : NameCut 93 (good_before head) following c

  in-closes : (head : Bool) (s c : List ℕ) (r : Option (List ℕ × List ℕ))
      → IfSome r (λ z. IsName z.0 × (s ≡ z.0 ++ (33 ∷ z.1)))
      → bracket_in bang head s r ≡ Some c → NameCut 93 (good_before head) s c
  in-closes head s c None t e = absurd cc
  in-closes head s c (Some named) t e = name_upto-closes 93 (good_before head) s c named t e

  pub in_name-finds : (head : Bool) (text c : List ℕ) → bracket_in_name bang head text ≡ Some c → NameClosed head text c
  unfolding bracket_in_name
  in_name-finds head [] c e = absurd cc
  in_name-finds head (b ∷ s) c e =
      let found = cond_then _ _ _ e in let p = and_parts _ _ found.0 in
      let name = in-closes head s c (name_at s) (name_at-takes s) found.1 in
      record { following = s; is = ap (λ x. x ∷ s) (eqb-true b 33 p.0); off = not-true bang p.1; name = name }

  pub parts_before : (head : Bool) (s : List ℕ)
      → good_before head s ≡ true → InnerParts bang s (walk (inner_at bang) s).0
  parts_before head s h = parts_of_walk reader s (eqb-true _ 0 (and_parts _ _ h).0)

  in_name-closes : (head : Bool) (text c : List ℕ) → bracket_in_name bang head text ≡ Some c → Closed head text c
  in_name-closes head text c e =
      let found = in_name-finds head text c e in let k = found.name in
      let w = walk (inner_at bang) k.before in
      let longest =
      longest_of reader (33 ∷ k.before) (lone_inside, k.before) (lone_at bang k.before found.off k.names) in
      rw found.is (record {
        prefix = 33 ∷ k.before;
        rest = k.rest;
        parts = lone_inside ∷ w.0;
        is = k.is;
        cut = ap (λ x. 33 ∷ x) k.cut;
        good = then_part (33 ∷ k.before) lone_inside k.before w.0 longest (parts_before head k.before k.good);
        has = (and_parts (is_done w) (head || has_inner_head w.0) k.good).1;
      })

  -- a part and what closes after it
  then-closes : (head : Bool) (text c : List ℕ) (z : Inner × List ℕ)
      → inner_at bang text ≡ Some z → Closed (head || has_length z.0) z.1 c
      → Closed head text c
  then-closes head text c z e k =
      let u = inner_then z.0 k.prefix in let joined = joined_cut reader (inner_local bang) text c k.prefix z e k.cut in
      record {
        prefix = u;
        rest = k.rest;
        parts = z.0 ∷ k.parts;
        is = k.is;
        cut = joined.0;
        good = then_part u z.0 k.prefix k.parts (longest_of reader u (z.0, k.prefix) joined.1) k.good;
        has = sym (or_assoc head (has_length z.0) (has_inner_head k.parts)) ∙ k.has;
      }

  abbrev pub last_at : Bool → List ℕ → Option (List ℕ)
  last_at head text = last_bracket bang head (walk (inner_at bang) text).0 (walk (inner_at bang) text).1

  pub last_at-none : (head : Bool) (text : List ℕ)
      → inner_at bang text ≡ None → last_at head text ≡ bracket_here head text
  last_at-none head text e = rw (walk-none reader text e) refl

  pub last_at-some : (head : Bool) (text : List ℕ) (z : Inner × List ℕ) → inner_at bang text ≡ Some z →
      last_at head text ≡ later_or (last_at (head || has_length z.0) z.1) (bracket_in_name bang head text)
  last_at-some head text z e =
      let following = walk (inner_at bang) z.1 in
      let spelled : inner_then z.0 (spelled_then inner_then following.0 following.1) ≡ text =
      ap (inner_then z.0) (walk_spells reader (inner_local bang) z.1) ∙ sym (stands_at reader text z e).cut in
      rw (walk-some reader text z e, spelled) refl

  either_closes : (head : Bool) (text c : List ℕ) (z : Inner × List ℕ) (r : Option (List ℕ))
      → inner_at bang text ≡ Some z
      → ((d : List ℕ) → r ≡ Some d → Closed (head || has_length z.0) z.1 d)
      → later_or r (bracket_in_name bang head text) ≡ Some c
      → Closed head text c
  either_closes head text c z None e next found = in_name-closes head text c found
  either_closes head text c z (Some d) e next found = then-closes head text c z e (next c found)

  pub last_at-closes : (head : Bool) (text c : List ℕ) → last_at head text ≡ Some c → Closed head text c
  last_at-closes head text = by_parts reader (λ s. (h : Bool) (c : List ℕ) → last_at h s ≡ Some c → Closed h s c)
      (λ s e h c found. here-closes h s c (sym (last_at-none h s e) ∙ found))
      (λ s z e next h c found.
      either_closes h s c z (last_at (h || has_length z.0) z.1) e (next (h || has_length z.0))
      (sym (last_at-some h s z e) ∙ found))
      text head

  pub bracket_at-closes : (text c : List ℕ) → bracket_at bang text ≡ Some c → Closed false text c
  unfolding bracket_at
  bracket_at-closes text c found = last_at-closes false text c found

  pub bracket_within : (text c : List ℕ) → bracket_at bang text ≡ Some c → length c ≤ length text
  bracket_within text c found =
      let k = bracket_at-closes text c found in omega (arith, ap length k.cut, length-append k.prefix c)

  -- ---- the last bracket is at or after each bracket at which a chord ends, and at it if no exclamation mark is
  -- skipped
  record FoundLast (head : Bool) (text t : List ℕ) (lone : Bool) : Type 0 where
    closing : List ℕ
    is : last_at head text ≡ Some closing
    ends : ((length closing < length (93 ∷ t)) × (lone ≡ true)) ⊎ (closing ≡ 93 ∷ t)

  at_bracket : (t : List ℕ) → inner_at bang (93 ∷ t) ≡ None
  unfolding inner_at item_class
  at_bracket t = refl

  then-found : (head lone : Bool) (text t : List ℕ) (z : Inner × List ℕ) → inner_at bang text ≡ Some z →
      FoundLast (head || has_length z.0) z.1 t lone → FoundLast head text t (is_lone z.0 || lone)
  then-found head lone text t z e k = record {
    closing = k.closing;
    is = last_at-some head text z e ∙ rw k.is refl;
    ends = elim k.ends [ inl shorter ↦ inl (shorter.0, or_right (is_lone z.0) lone shorter.1) | inr same ↦ inr same ];
  }

  -- a bracket in a name
  pub in_name-reads : (head : Bool) (name x : List ℕ) → bang ≡ false → IsName name →
      bracket_in_name bang head (33 ∷ (name ++ (33 ∷ x))) ≡ name_upto 93 (good_before head) (name ++ (33 ∷ x)) (name, x)
  unfolding bracket_in_name
  in_name-reads head name x off good =
      cond-true (not bang) _ None (not_from_false bang off)
      ∙ ap (bracket_in bang head (name ++ (33 ∷ x))) (name_at-reads name x good)

  in_name-found : (head : Bool) (before after rest : List ℕ) (parts : List Inner)
      → bang ≡ false → IsName (before ++ (93 ∷ after))
      → InnerParts bang before parts → (head || has_inner_head parts) ≡ true →
      bracket_in_name bang head (33 ∷ ((before ++ (93 ∷ after)) ++ (33 ∷ rest))) ≡ Some (93 ∷ (after ++ (33 ∷ rest)))
  in_name-found head before after rest parts off good inner has =
      let names = all_parts is_name_byte before (93 ∷ after) good.bytes in
      let clear = wider free is_inside before inside_wide (clear_parts bang before parts inner names.0) in
      let passes : good_before head before ≡ true = rw (walk_of_parts reader before parts inner, has) refl in
      in_name-reads head (before ++ (93 ∷ after)) rest off good
      ∙ name_upto-found 93 (good_before head) before after rest refl clear passes

  cross_last : (head lone : Bool) (text t : List ℕ) (z : Inner × List ℕ) (r : Option (List ℕ))
      → inner_at bang text ≡ Some z
      → length z.1 < length (93 ∷ t) → bracket_in_name bang head text ≡ Some (93 ∷ t) → lone ≡ true
      → last_at (head || has_length z.0) z.1 ≡ r
      → FoundLast head text t lone
  cross_last head lone text t z None e short found only is = record {
    closing = 93 ∷ t;
    is = last_at-some head text z e ∙ rw is found;
    ends = inr refl;
  }
  cross_last head lone text t z (Some c) e short found only is =
      let k = last_at-closes (head || has_length z.0) z.1 c is in
      let shorter : length c < length (93 ∷ t) = omega (arith, short, ap length k.cut, length-append k.prefix c) in
      record { closing = c; is = last_at-some head text z e ∙ rw is refl; ends = inl (shorter, only) }

  cross-found : (head : Bool) (u t v : List ℕ) (part : Inner) (more : List Inner) (z : Inner × List ℕ)
      → inner_at bang u ≡ Some (part, v)
      → InnerParts bang v more → (head || has_inner_head (part ∷ more)) ≡ true → inner_at bang (u ++ (93 ∷ t)) ≡ Some z
      → length z.1 < length (93 ∷ t)
      → FoundLast head (u ++ (93 ∷ t)) t (has_lone (part ∷ more))
  cross-found head u t v part more z at others has e short =
      let text = u ++ (93 ∷ t) in let stands = stands_at reader text z e in
      let k = crossing bang 93 z.0 u t z.1 refl refl stands.good stands.cut short in
      let same = some_pair_parts part lone_inside v k.before (sym at ∙ k.lone) in
      let inner = subst (λ (x : List ℕ). InnerParts bang x more) same.1 others in
      let heads = subst (λ (p : Inner). (head || has_inner_head (p ∷ more)) ≡ true) same.0 has in
      let found = ap (bracket_in_name bang head) k.spelled
      ∙ in_name-found head k.before k.after z.1 more k.off k.name inner heads
      ∙ ap Some k.tail in
      cross_last head (has_lone (part ∷ more)) text t z (last_at (head || has_length z.0) z.1) e short found
      (or_left _ _ (ap is_lone same.0)) refl

  last-reaches : (head : Bool) (u t : List ℕ) (ps : List Inner)
      → InnerParts bang u ps → (head || has_inner_head ps) ≡ true
      → FoundLast head (u ++ (93 ∷ t)) t (has_lone ps)
  last-reaches head _ t _ no_part has = record {
    closing = 93 ∷ t;
    is = last_at-none head (93 ∷ t) (at_bracket t) ∙ rw (sym (or-false head) ∙ has) refl;
    ends = inr refl;
  }
  last-reaches head _ t _ (then_part u part v more l others) has =
      elim (read_on reader (inner_local bang) part u v (93 ∷ t) l) [
        | inl on ↦
            (let later = last-reaches (head || has_length part) v t more others
            (or_assoc head (has_length part) (has_inner_head more) ∙ has) in
            then-found head (has_lone more) (u ++ (93 ∷ t)) t (part, v ++ (93 ∷ t)) on later)
        | inr past ↦ cross-found head u t v part more past.0 (longest_is reader u part v l) others has past.1 past.2
      ]

  -- ---- a chord
  abbrev pub TakesChord : List ℕ → Option (ChordForm × List ℕ) → Type 0
  TakesChord s r = IfSome r (λ z. IsChord bang z.0 × (s ≡ chord_then z.0 z.1))

  chord_from-takes : (s : List ℕ) (r : Option (List ℕ)) → bracket_at bang s ≡ r → TakesChord s (chord_from bang s r)
  chord_from-takes s None e = tt
  chord_from-takes s (Some []) e = tt
  chord_from-takes s (Some (b ∷ c)) e =
      let k = bracket_at-closes s (b ∷ c) e in let l = length_at-takes c in
      rw (cut_off s k.prefix (b ∷ c) k.cut, walk_of_parts reader k.prefix k.parts k.good) (
        record { parts = k.good; head = k.has; length = l.1 },
        k.cut ∙ ap (λ x. k.prefix ++ x) (k.is ∙ ap (λ x. 93 ∷ x) (sym (rest_same k.is) ∙ l.0)),
      )

  pub chord_at-takes : (s : List ℕ) → TakesChord s (chord_at bang s)
  unfolding chord_at
  chord_at-takes s = chord_from-takes s (bracket_at bang s) refl

  abbrev chord_with : ChordForm → LengthForm × List ℕ → ChordForm × List ℕ
  chord_with f len = (record { inside = f.inside; parts = f.parts; length = len.0 }, len.1)

  at_closing : (s c : List ℕ) → bracket_at bang s ≡ Some c → chord_at bang s ≡ chord_from bang s (Some c)
  unfolding chord_at
  at_closing s c e = rw e refl

  found_at : (s c : List ℕ) → last_at false s ≡ Some c → bracket_at bang s ≡ Some c
  unfolding bracket_at
  found_at s c e = e

  chord_there : (f : ChordForm) (x : List ℕ)
      → IsChord bang f → last_at false (chord_then f x) ≡ Some (93 ∷ length_then f.length x)
      → chord_at bang (chord_then f x) ≡ Some (chord_with f (length_from (length_then f.length x)))
  chord_there f x good e =
      let c = 93 ∷ length_then f.length x in
      let inside : take (length (f.inside ++ c) - length c) (f.inside ++ c) ≡ f.inside =
      cut_off (f.inside ++ c) f.inside c refl in
      at_closing (chord_then f x) c (found_at _ c e)
      ∙ rw (inside, walk_of_parts reader f.inside f.parts good.parts) refl

  longer_chord : (f : ChordForm) (x c : List ℕ) → IsChord bang f → bracket_at bang (chord_then f x) ≡ Some c →
      length c < length (93 ∷ length_then f.length x) →
      (z : ChordForm × List ℕ) × (chord_at bang (chord_then f x) ≡ Some z) × ((length z.1 < length x) ⊎ (z ≡ (f, x)))
  longer_chord f x [] good e shorter =
      absurd (let k = bracket_at-closes (chord_then f x) [] e in omega (arith, ap length k.is))
  longer_chord f x (b ∷ c) good e shorter =
      let text = chord_then f x in let k = bracket_at-closes text (b ∷ c) e in
      let cut = k.cut ∙ ap (λ y. k.prefix ++ (y ∷ c)) (first_same k.is) in
      let near = after_length f.length x f.inside k.prefix c good.length cut (omega (arith, shorter)) in
      let inside = take (length text - length (b ∷ c)) text in
      let l = length_at-takes c in (
        (
          record { inside = inside; parts = (walk (inner_at bang) inside).0; length = (length_from c).0 },
          (length_from c).1,
        ),
        at_closing text (b ∷ c) e,
        inl (omega (arith, near, ap length l.0, length-length_then (length_from c).0 (length_from c).1)),
      )

  pub chord_at-reaches : (f : ChordForm) (x : List ℕ) → IsChord bang f →
      (z : ChordForm × List ℕ) × (chord_at bang (chord_then f x) ≡ Some z) × ((length z.1 < length x) ⊎ (z ≡ (f, x)))
  chord_at-reaches f x good =
      let k = last-reaches false f.inside (length_then f.length x) f.parts good.parts good.head in
      elim k.ends [
        | inl shorter ↦ longer_chord f x k.closing good (found_at (chord_then f x) k.closing k.is) shorter.0
        | inr same ↦ (
          chord_with f (length_from (length_then f.length x)),
          chord_there f x good (k.is ∙ ap Some same),
          elim (length_at-reaches f.length x good.length) [
            | inl near ↦ inl near.0
            | inr same ↦ inr (ap (chord_with f) same)
          ],
        )
      ]

  -- if no exclamation mark is skipped, the chord itself is read
  pub chord-reads : (f : ChordForm) (x : List ℕ) → IsChord bang f → has_lone f.parts ≡ false →
      chord_at bang (chord_then f x) ≡ Some (chord_with f (length_from (length_then f.length x)))
  chord-reads f x good whole =
      let k = last-reaches false f.inside (length_then f.length x) f.parts good.parts good.head in
      elim k.ends [
        | inl shorter ↦ absurd (both_ways _ whole shorter.1)
        | inr same ↦ chord_there f x good (k.is ∙ ap Some same)
      ]

  -- ---- the state of the loop that looks for the last bracket
  pub record Seeking (text : List ℕ) (head : Bool) (last : Option (List ℕ)) (rest : List ℕ) : Type 0 where
    pub found : later_or (last_at head rest) last ≡ bracket_at bang text
    pub within : length rest ≤ length text

  pub seeking-begins : (text : List ℕ) → Seeking text false None text
  unfolding bracket_at
  seeking-begins text = record { found = later_none (last_at false text); within = omega arith }

  pub seeking-next : {text rest following : List ℕ} {head new : Bool} {last next : Option (List ℕ)} {part : Inner} →
      Seeking text head last rest → inner_at bang rest ≡ Some (part, following) → new ≡ (head || has_length part) →
      next ≡ later_or (bracket_in_name bang head rest) last → Seeking text new next following
  seeking-next {text} {rest} {following} {head} {new} {last} {next} {part} stage e newly later =
      rw (newly, later) (record {
        found =
            sym (later_assoc _ _ last)
            ∙ ap (λ r. later_or r last) (sym (last_at-some head rest (part, following) e))
            ∙ stage.found;
        within = omega (arith, less reader rest (part, following) e, stage.within);
      })

  pub seeking-ends : {text rest : List ℕ} {head : Bool} {last : Option (List ℕ)} → Seeking text head last rest →
      inner_at bang rest ≡ None → later_or (bracket_here head rest) last ≡ bracket_at bang text
  seeking-ends {text} {rest} {head} {last} stage e =
      ap (λ r. later_or r last) (sym (last_at-none head rest e)) ∙ stage.found

  -- ---- the fault
  pub chord-unclosed : (s w r : List ℕ) → two w r ≡ span_all is_inside s → length r ≡ 0 →
      ChordFault bang s (record { kind = Unclosed; left = length s + 1 })
  chord-unclosed s w r cut none = rw add-one (chord_unclosed s (none_left is_inside s w r cut none))

  inner_leads : (s t : List ℕ) → (walk (inner_at bang) s).1 ≡ t → InnerLeads bang s (walk (inner_at bang) s).0 t
  inner_leads s t e = rw e at (leads_of_walk reader (inner_local bang) s)

  pub chord-open : (s : List ℕ)
      → is_done (walk (inner_at bang) s) ≡ true → ChordFault bang s (record { kind = Unclosed; left = length s + 1 })
  chord-open s done = rw add-one (chord_open s _ (inner_leads s [] (nil_from_length _ (eqb-true _ 0 done))))

  -- parts with a head up to a bracket are a chord
  last_here : (head : Bool) (ps : List Inner) (t : List ℕ)
      → (head || has_inner_head ps) ≡ true → last_bracket bang head ps (93 ∷ t) ≡ Some (93 ∷ t)
  last_here head [] rest has = rw (sym (or-false head) ∙ has) refl
  last_here head (p ∷ ps) rest has =
      rw (last_here (head || has_length p) ps rest (or_assoc head (has_length p) (has_inner_head ps) ∙ has)) refl

  headless : (s rest : List ℕ)
      → (walk (inner_at bang) s).1 ≡ 93 ∷ rest → chord_at bang s ≡ None
      → has_inner_head (walk (inner_at bang) s).0 ≡ false
  headless s rest stop none = false_from_ne_true _ (λ e.
      let ps = (walk (inner_at bang) s).0 in
      let found = found_at s (93 ∷ rest) (ap (last_bracket bang false ps) stop ∙ last_here false ps rest e) in
      let clash = sym none ∙ at_closing s (93 ∷ rest) found in cc)

  pub chord-headless : (s : List ℕ) → chord_at bang s ≡ None → begins is_bracket (walk (inner_at bang) s).1 ≡ true →
      ChordFault bang s (record { kind = BadByte; left = length s + 1 })
  chord-headless s none at =
      let stop = first_close 93 _ at in
      rw add-one (chord_headless s _ stop.0 (inner_leads s _ stop.1) (headless s stop.0 stop.1 none))

  none_after : (s t : List ℕ) → (walk (inner_at bang) s).1 ≡ t → HasNone Inner (StandsInside bang) t
  none_after s t e = none_of reader t (ap (inner_at bang) (sym e) ∙ stops_at reader s)

  pub chord-flawed : (s w r : List ℕ) (flaw : Flaw)
      → two w r ≡ span_all is_inside s → (length r ≡ 0 → ⊥) → is_done (walk (inner_at bang) s) ≡ false
      → begins is_bracket (walk (inner_at bang) s).1 ≡ false → InnerFlawed bang None s flaw → ChordFault bang s flaw
  chord-flawed s w r flaw cut some stuck other flawed = by_stop (walk (inner_at bang) s).1 refl
    where
      by_stop : (t : List ℕ) → (walk (inner_at bang) s).1 ≡ t → ChordFault bang s flaw
      by_stop [] e = absurd (let clash = sym stuck ∙ ap (λ (t : List ℕ). eqb (length t) 0) e in cc)
      by_stop (b ∷ t) e =
          chord_flawed s (walk (inner_at bang) s).0 b t flaw (some_left is_inside s w r cut some)
          (inner_leads s (b ∷ t) e) (none_after s (b ∷ t) e)
          (sym (ap (begins is_bracket) e) ∙ other) flawed
