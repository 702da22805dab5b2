-- Columns that are filled mark by mark are the columns of the marks.
use Rattle.std.proofs.Common.{◌≡◌, refl, sym, ap, ◌∙◌, subst, ℕ, zero, suc, ◌+◌, ◌<◌, Bool, true, false, ◌&&◌, List, []}
use Rattle.std.proofs.Common.{◌∷◌, ◌++◌, length, get_or, set, drop, drop-cons, arith, ℤ, pos, ◌-ℤ◌, append-nil}
use Rattle.std.proofs.Common.{append_assoc}
use Rattle.std.proofs.lemmas.Bool.{false≢true, or_parts}
use Rattle.std.proofs.lemmas.Cmp.{int_cmp_total}
use Rattle.std.proofs.lemmas.Grind.{flat_map-append}
use Rattle.std.specs.Prelude.{if◌then◌else◌}
use Rattle.std.specs.List.{flat_map, list_any}
use Rattle.std.specs.List.Sorted.{IsStrictlySortedBy}
use Rattle.std.specs.Ordering.{int_cmp, int_eq, is_eq, ordering_reverse}
use Rattle.std.specs.declared.cmp.Ordering.TheVariants.{Less}
use Rattle.mus_units.specs.declared.glyph.Glyph.{Glyph}
use Rattle.mus_units.specs.declared.glyph.Size.{Size}
use Rattle.mus_units.specs.declared.glyph.Way.{Way}
use Rattle.ps_text.specs.declared.marks.PageMark.{PageMark}
use Rattle.ps_heard.specs.declared.column.HeardColumn.{HeardColumn}
use Rattle.ps_heard.specs.declared.column.HeardGlyph.{HeardGlyph}
use Rattle.ps_heard.specs.declared.column.Role.{Role}
use Rattle.ps_heard.specs.Columns.{column_at, heard_columns_from, bulges_as_tie, glyphs_at, noted, tie_at}
use Rattle.ps_heard.specs.Filling.{at_place, with_page_mark, with_marks, with_note, with_tie_at}
use Rattle.ps_heard.specs.Roles.{role_of}
use Rattle.ps_heard.proofs.Places.{Below, itself, not_among}

-- ---- one column changed
as_it_is : (f : HeardColumn → HeardColumn) (c : HeardColumn) (b : Bool) → b ≡ false → (if b then f c else c) ≡ c
as_it_is f c true e = ap (λ t. if t then f c else c) e
as_it_is f c false e = refl

changed : (f : HeardColumn → HeardColumn) (c : HeardColumn) (b : Bool) → b ≡ true → (if b then f c else c) ≡ f c
changed f c b e = ap (λ t. if t then f c else c) e

joined : (c d : HeardColumn) (cs ds : List HeardColumn) → c ≡ d → cs ≡ ds → c ∷ cs ≡ d ∷ ds
joined c d cs ds e f = rw (e, f) refl

-- if the anchor is no place, nothing changes
pub absent : (x : ℤ) (f : HeardColumn → HeardColumn) (ys : List ℤ) (cs : List HeardColumn)
    → list_any (int_eq x) ys ≡ false → at_place x f ys cs ≡ cs
absent x f [] cs e = refl
absent x f (y ∷ ys) [] e = refl
absent x f (y ∷ ys) (c ∷ cs) e =
    let p = or_parts (int_eq x y) (list_any (int_eq x) ys) e in
    joined (if int_eq x y then f c else c) c (at_place x f ys cs) cs (as_it_is f c (int_eq x y) p.0)
    (absent x f ys cs p.1)

none_short : (k : ℕ) → k < 0 → ⊥
none_short k h = omega arith

no_zero : {n : ℕ} → 0 ≡ suc n → ⊥
no_zero e = omega arith

other : (x y : ℤ) → int_cmp y x ≡ Less → int_eq x y ≡ false
other x y l = ap is_eq (int_cmp_total.antisymm x y ∙ ap ordering_reverse l)

below_at : (y : ℤ) (ys : List ℤ) (k : ℕ) (d : ℤ) → Below y ys → k < length ys → int_cmp y (get_or ys k d) ≡ Less
below_at y [] k d b h = absurd (none_short k h)
below_at y (w ∷ ws) zero d b h = b.0
below_at y (w ∷ ws) (suc k) d b h = below_at y ws k d b.1 (omega arith)

-- the column at the anchor's place is changed, and no other
pub present : (x : ℤ) (f : HeardColumn → HeardColumn) (ys : List ℤ) (cs : List HeardColumn) (k : ℕ) (v : HeardColumn)
    → IsStrictlySortedBy int_cmp ys → k < length ys
    → length cs ≡ length ys → ((d : ℤ) → get_or ys k d ≡ x) → get_or cs k v ≡ v → set cs k (f v) ≡ at_place x f ys cs
unfolding IsStrictlySortedBy
present x f [] cs k v s h l at is = absurd (none_short k h)
present x f (y ∷ ys) [] k v s h l at is = absurd (no_zero l)
present x f (y ∷ ys) (c ∷ cs) zero v s h l at is =
    let here : y ≡ x = at x in
    let out : list_any (int_eq x) ys ≡ false = not_among x ys (subst (λ w. Below w ys) here s.0) in
    joined (f v) (if int_eq x y then f c else c) cs (at_place x f ys cs)
    (ap f (sym is) ∙ sym (changed f c (int_eq x y) (subst (λ w. int_eq x w ≡ true) (sym here) (itself x))))
    (sym (absent x f ys cs out))
present x f (y ∷ ys) (c ∷ cs) (suc k) v s h l at is =
    let low : int_cmp y x ≡ Less = subst (λ w. int_cmp y w ≡ Less) (at x) (below_at y ys k x s.0 (omega arith)) in
    joined c (if int_eq x y then f c else c) (set cs k (f v)) (at_place x f ys cs)
    (sym (as_it_is f c (int_eq x y) (other x y low)))
    (present x f ys cs k v s.1 (omega arith) (omega arith) at is)

-- ---- what a mark means for each column
nothing_one : (c : HeardColumn) → record c { notes = c.notes ++ []; ties = c.ties ++ [] } ≡ c
nothing_one c =
    ap (λ t. record { leads = c.leads; notes = t; ties = c.ties ++ [] }) (append-nil c.notes)
    ∙ ap (λ t. record { leads = c.leads; notes = c.notes; ties = t }) (append-nil c.ties)

glyph_one : (c : HeardColumn) (b : Bool) (ns : List HeardGlyph)
    → record c { notes = c.notes ++ (if b then ns else []); ties = c.ties ++ [] }
    ≡ (if b then record c { notes = c.notes ++ ns } else c)
glyph_one c true ns = ap (λ t. record { leads = c.leads; notes = c.notes ++ ns; ties = t }) (append-nil c.ties)
glyph_one c false ns = nothing_one c

glyph_known : (g : Glyph) (x dx dy : ℤ) (ys : List ℤ) (cs : List HeardColumn)
    → with_page_mark (PageMark.Glyph g x dx dy) ys cs ≡ at_place x (with_note (role_of g dy) dy) ys cs
glyph_known g x dx dy [] cs = refl
glyph_known g x dx dy (y ∷ ys) [] = refl
glyph_known g x dx dy (y ∷ ys) (c ∷ cs) =
    joined (record c { notes = c.notes ++ glyphs_at y (PageMark.Glyph g x dx dy); ties = c.ties ++ [] })
    (if int_eq x y then with_note (role_of g dy) dy c else c)
    (with_page_mark (PageMark.Glyph g x dx dy) ys cs) (at_place x (with_note (role_of g dy) dy) ys cs)
    (glyph_one c (int_eq x y) (noted (role_of g dy) dy)) (glyph_known g x dx dy ys cs)

-- the same, as passed to the code
pub glyph_passed : (g : Glyph) (x dx dy at low high : ℤ) (role : Role) (ys : List ℤ) (cs new : List HeardColumn)
    → at ≡ x → low ≡ dy → high ≡ dy → role ≡ role_of g low
    → new ≡ at_place at (with_note role high) ys cs → new ≡ with_page_mark (PageMark.Glyph g x dx dy) ys cs
glyph_passed g x dx dy at low high role ys cs new e f h k is =
    is
    ∙ ap (λ z. at_place z (with_note role high) ys cs) e
    ∙ ap (λ r. at_place x (with_note r high) ys cs) (k ∙ ap (role_of g) f)
    ∙ ap (λ z. at_place x (with_note (role_of g dy) z) ys cs) h ∙ sym (glyph_known g x dx dy ys cs)

tie_one : (c : HeardColumn) (b t : Bool) (dy : ℤ)
    → t ≡ true
    → record c { notes = c.notes ++ []; ties = c.ties ++ (if b && t then dy ∷ [] else []) }
    ≡ (if b then record c { ties = c.ties ++ dy ∷ [] } else c)
tie_one c b false dy e = absurd (false≢true e)
tie_one c true true dy e =
    ap (λ t. record { leads = c.leads; notes = t; ties = c.ties ++ dy ∷ [] }) (append-nil c.notes)
tie_one c false true dy e = nothing_one c

tie_known : (x1 x2 from to bulge : ℤ) (ys : List ℤ) (cs : List HeardColumn)
    → bulges_as_tie bulge ≡ true
    → with_page_mark (PageMark.Arc x1 x2 from to bulge) ys cs ≡ at_place x2 (with_tie_at (to -ℤ bulge)) ys cs
tie_known x1 x2 from to bulge [] cs e = refl
tie_known x1 x2 from to bulge (y ∷ ys) [] e = refl
tie_known x1 x2 from to bulge (y ∷ ys) (c ∷ cs) e =
    joined (record c { notes = c.notes ++ []; ties = c.ties ++ tie_at y (PageMark.Arc x1 x2 from to bulge) })
    (if int_eq x2 y then with_tie_at (to -ℤ bulge) c else c)
    (with_page_mark (PageMark.Arc x1 x2 from to bulge) ys cs) (at_place x2 (with_tie_at (to -ℤ bulge)) ys cs)
    (tie_one c (int_eq x2 y) (bulges_as_tie bulge) (to -ℤ bulge) e) (tie_known x1 x2 from to bulge ys cs e)

pub tie_passed : (x1 x2 from to bulge at end passed : ℤ) (ys : List ℤ) (cs new : List HeardColumn)
    → bulges_as_tie bulge ≡ true → at ≡ x2 → passed ≡ end → end ≡ to -ℤ bulge
    → new ≡ at_place at (with_tie_at passed) ys cs → new ≡ with_page_mark (PageMark.Arc x1 x2 from to bulge) ys cs
tie_passed x1 x2 from to bulge at end passed ys cs new tie e f h is =
    is
    ∙ ap (λ z. at_place z (with_tie_at passed) ys cs) e
    ∙ ap (λ z. at_place x2 (with_tie_at z) ys cs) (f ∙ h)
    ∙ sym (tie_known x1 x2 from to bulge ys cs tie)

-- a mark that means nothing
quiet_one : (c : HeardColumn) (ns : List HeardGlyph) (ts : List ℤ)
    → ns ≡ [] → ts ≡ [] → record c { notes = c.notes ++ ns; ties = c.ties ++ ts } ≡ c
quiet_one c ns ts e f =
    ap (λ t. record { leads = c.leads; notes = c.notes ++ t; ties = c.ties ++ ts }) e
    ∙ ap (λ t. record { leads = c.leads; notes = c.notes ++ []; ties = c.ties ++ t }) f
    ∙ nothing_one c

quiet_known : (m : PageMark) (ys : List ℤ) (cs : List HeardColumn)
    → ((y : ℤ) → glyphs_at y m ≡ []) → ((y : ℤ) → tie_at y m ≡ []) → with_page_mark m ys cs ≡ cs
quiet_known m [] cs e f = refl
quiet_known m (y ∷ ys) [] e f = refl
quiet_known m (y ∷ ys) (c ∷ cs) e f =
    joined (record c { notes = c.notes ++ glyphs_at y m; ties = c.ties ++ tie_at y m }) c (with_page_mark m ys cs) cs
    (quiet_one c (glyphs_at y m) (tie_at y m) (e y) (f y)) (quiet_known m ys cs e f)

pub words_known : (size : Size) (x dx dy : ℤ) (text : List ℕ) (ys : List ℤ) (cs : List HeardColumn)
    → with_page_mark (PageMark.Words size x dx dy text) ys cs ≡ cs
words_known size x dx dy text ys cs = quiet_known (PageMark.Words size x dx dy text) ys cs (λ y. refl) (λ y. refl)

pub stem_known : (x dx from to : ℤ) (ys : List ℤ) (cs : List HeardColumn)
    → with_page_mark (PageMark.Stem x dx from to) ys cs ≡ cs
stem_known x dx from to ys cs = quiet_known (PageMark.Stem x dx from to) ys cs (λ y. refl) (λ y. refl)

pub beam_known : (way : Way) (x1 x2 from to : ℤ) (ys : List ℤ) (cs : List HeardColumn)
    → with_page_mark (PageMark.Beam way x1 x2 from to) ys cs ≡ cs
beam_known way x1 x2 from to ys cs = quiet_known (PageMark.Beam way x1 x2 from to) ys cs (λ y. refl) (λ y. refl)

no_tie : (b t : Bool) (dy : ℤ) → t ≡ false → (if b && t then dy ∷ [] else []) ≡ []
no_tie true t dy e = ap (λ u. if u then dy ∷ [] else []) e
no_tie false t dy e = refl

pub slur_known : (x1 x2 from to bulge : ℤ) (ys : List ℤ) (cs : List HeardColumn)
    → bulges_as_tie bulge ≡ false → with_page_mark (PageMark.Arc x1 x2 from to bulge) ys cs ≡ cs
slur_known x1 x2 from to bulge ys cs e =
    quiet_known (PageMark.Arc x1 x2 from to bulge) ys cs (λ y. refl)
    (λ y. no_tie (int_eq x2 y) (bulges_as_tie bulge) (to -ℤ bulge) e)

-- ---- mark by mark
pub mark_length : (m : PageMark) (ys : List ℤ) (cs : List HeardColumn) → length (with_page_mark m ys cs) ≡ length cs
mark_length m [] cs = refl
mark_length m (y ∷ ys) [] = refl
mark_length m (y ∷ ys) (c ∷ cs) = ap suc (mark_length m ys cs)

pub columns_length : (leads : Bool) (ms : List PageMark) (ys : List ℤ)
    → length (heard_columns_from leads ms ys) ≡ length ys
columns_length leads ms [] = refl
columns_length leads ms (y ∷ ys) = ap suc (columns_length false ms ys)

one_more : {A B : Type 0} (f : A → List B) (ms : List A) (m : A) → flat_map f ms ++ f m ≡ flat_map f (ms ++ m ∷ [])
one_more f ms m = ap (λ t. flat_map f ms ++ t) (sym (append-nil (f m))) ∙ sym (flat_map-append f ms (m ∷ []))

column_more : (leads : Bool) (ms : List PageMark) (m : PageMark) (y : ℤ)
    → record (column_at leads ms y) {
      notes = (column_at leads ms y).notes ++ glyphs_at y m;
      ties = (column_at leads ms y).ties ++ tie_at y m;
    } ≡ column_at leads (ms ++ m ∷ []) y
unfolding column_at
column_more leads ms m y =
    ap (λ t. record { leads = leads; notes = t; ties = flat_map (tie_at y) ms ++ tie_at y m })
    (one_more (glyphs_at y) ms m)
    ∙ ap (λ t. record { leads = leads; notes = flat_map (glyphs_at y) (ms ++ m ∷ []); ties = t })
    (one_more (tie_at y) ms m)

mark_more : (leads : Bool) (ms : List PageMark) (m : PageMark) (ys : List ℤ)
    → with_page_mark m ys (heard_columns_from leads ms ys) ≡ heard_columns_from leads (ms ++ m ∷ []) ys
mark_more leads ms m [] = refl
mark_more leads ms m (y ∷ ys) =
    joined (record (column_at leads ms y) {
      notes = (column_at leads ms y).notes ++ glyphs_at y m;
      ties = (column_at leads ms y).ties ++ tie_at y m;
    }) (column_at leads (ms ++ m ∷ []) y)
    (with_page_mark m ys (heard_columns_from false ms ys)) (heard_columns_from false (ms ++ m ∷ []) ys)
    (column_more leads ms m y) (mark_more false ms m ys)

filled_after : (leads : Bool) (done ms : List PageMark) (ys : List ℤ)
    → with_marks ms ys (heard_columns_from leads done ys) ≡ heard_columns_from leads (done ++ ms) ys
filled_after leads done [] ys = ap (λ t. heard_columns_from leads t ys) (sym (append-nil done))
filled_after leads done (m ∷ ms) ys =
    ap (with_marks ms ys) (mark_more leads done m ys)
    ∙ filled_after leads (done ++ m ∷ []) ms ys
    ∙ ap (λ t. heard_columns_from leads t ys) (append_assoc done (m ∷ []) ms)

-- one step of the loop that makes empty columns
pub empty_more : (leads : Bool) (ys : List ℤ) (i : ℕ) (v : HeardColumn) (out new target : List HeardColumn)
    → i < length ys → v ≡ record { leads = leads; notes = []; ties = [] }
    → new ≡ out ++ v ∷ [] → out ++ heard_columns_from leads [] (drop i ys) ≡ target
    → new ++ heard_columns_from false [] (drop (i + 1) ys) ≡ target
unfolding column_at
empty_more leads ys i v out new target inside is pushed before =
    let one : i + 1 ≡ suc i = omega arith in let rest = heard_columns_from false [] (drop (suc i) ys) in
    rw one (ap (λ t. t ++ rest) pushed ∙ append_assoc out (v ∷ []) rest ∙ ap (λ w. out ++ (w ∷ rest)) is
    ∙ ap (λ l. out ++ heard_columns_from leads [] l) (sym (drop-cons ys i (pos 0) inside)) ∙ before)

-- one step of the loop over marks
pub marks_more : (ys : List ℤ) (ms : List PageMark) (i : ℕ) (m : PageMark) (cols new target : List HeardColumn)
    → i < length ms → m ≡ get_or ms i m
    → new ≡ with_page_mark m ys cols → with_marks (drop i ms) ys cols ≡ target
    → with_marks (drop (i + 1) ms) ys new ≡ target
marks_more ys ms i m cols new target inside here is before =
    let one : i + 1 ≡ suc i = omega arith in
    let cut : drop i ms ≡ m ∷ drop (suc i) ms = drop-cons ms i m inside ∙ ap (λ l. l ∷ drop (suc i) ms) (sym here) in
    rw one (ap (with_marks (drop (suc i) ms) ys) is ∙ ap (λ l. with_marks l ys cols) (sym cut) ∙ before)

-- all marks
pub filled : (leads : Bool) (ms : List PageMark) (ys : List ℤ)
    → with_marks ms ys (heard_columns_from leads [] ys) ≡ heard_columns_from leads ms ys
filled leads ms ys = filled_after leads [] ms ys
