-- The lines of a body give one list of items and faults, so a body has one result: its items, or its first fault.
use Rattle.std.proofs.Common.{◌≡◌, ◌∙◌, refl, sym, ap, subst, ℕ, ◌+◌, ◌≤◌, List, ◌++◌, length, take, drop, Some, arith}
use Rattle.std.proofs.Common.{append_assoc, ⊎_elim, Result, Ok, Err}
use Rattle.std.proofs.lemmas.Bool.{cases_lt}
use Rattle.std.proofs.lemmas.List.{take-append-drop, take-take, take_all}
use Rattle.abc_lines.specs.declared.book.Line.{Line}
use Rattle.abc_lines.specs.declared.fault.Fault.{Fault}
use Rattle.abc_lines.specs.declared.kind.LineKind.{LineKind}
use Rattle.abc_lines.specs.Kinds.{kind_of}
use Rattle.abc_lines.specs.Results.{IsOnlyResult}
use Rattle.abc_steps.specs.declared.step.BodyItem.{BodyItem}
use Rattle.abc_field.specs.declared.directive.Breaks.{Breaks}
use Rattle.abc_fields.specs.declared.header.Header.{Header}
use Rattle.abc_music.proofs.OnePrefix.{one_prefix_of}
use Rattle.abc_items.specs.Body.{ItemOrFault, KindGives, BodyGives, no_lines, one_line, judged_items, first_item_fault}
use Rattle.abc_items.specs.Body.{items_in, IsBody, HasFault, IsBodyResult}
use Rattle.abc_items.specs.Voices.{declared_ids}
use Rattle.abc_items.proofs.Laws.{stays}

one_by_kind : (breaks : Breaks) (line : Line) (kind : LineKind) (g h : List ItemOrFault)
    → KindGives breaks line kind g → KindGives breaks line kind h → g ≡ h
one_by_kind breaks line LineKind.Music g h a b =
    let o = one_prefix_of breaks.bang line a.0 b.0 a.1 b.1 a.2 b.2 in a.3 ∙ sym (b.3 ∙ rw (o.0, o.1) refl)
one_by_kind breaks line kind g h a b = a ∙ sym b

-- what some first lines give is a prefix of what all lines give
prefix_given : (breaks : Breaks) (lines more : List Line) (g h : List ItemOrFault)
    → BodyGives breaks lines g → BodyGives breaks (lines ++ more) h → (rest : List ItemOrFault) × (h ≡ g ++ rest)
prefix_given breaks _ more _ h no_lines b = (h, refl)
prefix_given breaks _ more _ _ (one_line line lines first others g here following is)
    (one_line _ _ one many h there later are) =
    let e = one_by_kind breaks line (kind_of line.text) one first there here in
    let o = prefix_given breaks lines more others many following later in
    (o.0, cc (o.1, append_assoc first others o.0))

one_given : (breaks : Breaks) (lines : List Line) (g h : List ItemOrFault)
    → BodyGives breaks lines g → BodyGives breaks lines h → g ≡ h
one_given breaks _ _ _ no_lines no_lines = refl
one_given breaks _ _ _ (one_line line lines first others g here following is)
    (one_line _ _ one many h there later are) =
    cc (
      one_by_kind breaks line (kind_of line.text) first one here there,
      one_given breaks lines others many following later,
    )

-- ---- the items and the fault
pub one_items : (header : Header) (lines : List Line) (xs ys : List BodyItem)
    → IsBody header lines xs → IsBody header lines ys → xs ≡ ys
one_items header lines xs ys a b =
    a.are ∙ ap items_in (one_given header.breaks lines a.given b.given a.gives_so b.gives_so) ∙ sym b.are

-- a fault among what the first lines give is the first of what more lines give
fault_stays : (header : Header) (lines : List Line) (fault : Fault) (a : HasFault header lines fault) (far : ℕ)
    (h : List ItemOrFault)
    → a.count ≤ far → BodyGives header.breaks (take far lines) h
    → first_item_fault (judged_items (declared_ids header) h) ≡ Some fault
fault_stays header lines fault a far h less b =
    let prefix = take far lines in
    let whole : take a.count lines ++ drop a.count prefix ≡ prefix =
    ap (λ ls. ls ++ drop a.count prefix) (sym (take-take a.count far lines less)) ∙ take-append-drop a.count prefix in
    let o = prefix_given header.breaks (take a.count lines) (drop a.count prefix) a.given h a.gives_so
    (subst (λ ls. BodyGives header.breaks ls h) (sym whole) b) in
    rw o.1 (stays (declared_ids header) a.given o.0 fault a.first)

pub no_body_fault : (header : Header) (lines : List Line) (items : List BodyItem) (fault : Fault)
    → IsBody header lines items → HasFault header lines fault → ⊥
no_body_fault header lines items fault a b =
    let far = b.count + length lines in
    let e =
    fault_stays header lines fault b far a.given (omega arith) (rw (take_all far lines (omega arith)) a.gives_so) in
    let clash = sym a.clear ∙ e in
    cc

fault_along : (header : Header) (lines : List Line) (f g : Fault) (a : HasFault header lines f)
    (b : HasFault header lines g)
    → a.count ≤ b.count → f ≡ g
fault_along header lines f g a b less =
    let same = sym (fault_stays header lines f a b.count b.given less b.gives_so) ∙ b.first in cc

pub one_body_fault : (header : Header) (lines : List Line) (f g : Fault)
    → HasFault header lines f → HasFault header lines g → f ≡ g
one_body_fault header lines f g a b =
    ⊎_elim (λ less. fault_along header lines f g a b (omega (arith, less)))
    (λ less. sym (fault_along header lines g f b a less)) (cases_lt a.count b.count)

pub one_body : (header : Header) (lines : List Line) (result : Result (List BodyItem) Fault)
    → IsBodyResult header lines result → IsOnlyResult (IsBodyResult header lines) result
one_body header lines (Ok xs) a (Ok ys) b = ap Ok (one_items header lines xs ys a b)
one_body header lines (Ok xs) a (Err g) b = absurd (no_body_fault header lines xs g a b)
one_body header lines (Err f) a (Ok ys) b = absurd (no_body_fault header lines ys f b a)
one_body header lines (Err f) a (Err g) b = ap Err (one_body_fault header lines f g a b)
