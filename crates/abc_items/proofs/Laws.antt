-- Reading continues from part to part.
use Rattle.std.proofs.Common.{◌≡◌, ℕ, suc, ◌+◌, ◌<◌, ◌≤◌, ◌^◌, List, [], ◌∷◌, ◌++◌, length, map, take, drop, get_or}
use Rattle.std.proofs.Common.{refl, sym, ap, ◌∙◌, subst, arith, append_assoc, append-nil, drop-cons, Option, Some, None}
use Rattle.std.proofs.Common.{Bool, true, false, ◌&&◌, All, flat_map}
use Rattle.std.proofs.Math.Seq.{take-suc}
use Rattle.std.proofs.lemmas.List.Sums.{sum_by-cons}
use Rattle.std.proofs.lemmas.List.Elements.{All-nil, All-push, All-append, All-head, All-tail}
use Rattle.std.specs.Str.{bytes_eq}
use Rattle.mus_units.specs.declared.pitch.Clef.{Clef}
use Rattle.abc_steps.specs.declared.step.Step.{Step}
use Rattle.abc_steps.specs.declared.step.PlacedStep.{PlacedStep}
use Rattle.abc_steps.specs.Good.{IsGoodPlacedStep}
use Rattle.abc_steps.specs.declared.step.BodyItem.{BodyItem}
use Rattle.abc_items.specs.Good.{IsGoodItem}
use Rattle.abc_items.specs.declared.body.Body.{Body}
use Rattle.abc_items.specs.Voices.{ids_after_item, declared_ids, stood, break_if, one_if, named_step, steps_in}
use Rattle.abc_items.specs.Voices.{own_next, steps_from}
use Rattle.abc_items.specs.Body.{ItemOrFault, gives, fails, item_judged, judged_items, first_item_fault, items_in}
use Rattle.abc_items.specs.Body.{LineGives, BodyGives, no_lines, one_line, IsBody, IsBodyError}
use Rattle.abc_items.specs.Reading.{Reads, Stops, ReadsSome, StopsBy, LinesStop}
use Rattle.abc_lines.specs.declared.book.Line.{Line}
use Rattle.abc_lines.specs.declared.fault.Fault.{Fault}
use Rattle.abc_lines.specs.declared.fault.TuneError.{TuneError}
use Rattle.abc_lines.specs.Good.{size_of}
use Rattle.abc_music.specs.declared.token.Placed.{Placed}
use Rattle.{abc_field.specs.declared.directive.Breaks.{Breaks}, abc_fields.specs.declared.header.Header.{Header}}

-- one more element of a list mapped from another
pub mapped-more : {X Y : Type 0} (f : X → Y) (xs : List X) (i : ℕ) (x : X) (done new : List Y) (y : Y)
    → i < length xs → x ≡ get_or xs i x → new ≡ done ++ y ∷ [] → y ≡ f x
    → done ++ map f (drop i xs) ≡ map f xs → new ++ map f (drop (i + 1) xs) ≡ map f xs
mapped-more f xs i x done new y inside here pushed made so_far =
    let one : i + 1 ≡ suc i = omega arith in
    let cut : drop i xs ≡ get_or xs i x ∷ drop (suc i) xs = drop-cons xs i x inside in
    rw one (ap (λ vs. vs ++ map f (drop (suc i) xs)) pushed ∙ append_assoc done (y ∷ []) (map f (drop (suc i) xs))
    ∙ ap (λ d. done ++ d ∷ map f (drop (suc i) xs)) (made ∙ ap f here) ∙ ap (λ ks. done ++ map f ks) (sym cut) ∙ so_far)

pub reads_nothing : (b : Body) → Reads b [] b
reads_nothing b = record { faults = λ h. refl; items = λ h. refl }

pub reads_both : (a b c : Body) (g h : List ItemOrFault) → Reads a g b → Reads b h c → Reads a (g ++ h) c
reads_both a b c g h one two = record {
  faults =
      λ k. ap (λ x. first_item_fault (judged_items a.ids x)) (append_assoc g h k) ∙ one.faults (h ++ k) ∙ two.faults k;
  items = λ k. ap (λ x. a.items ++ items_in x) (append_assoc g h k) ∙ one.items (h ++ k) ∙ two.items k;
}

-- a fault stays the first, whatever follows
pub stays : (ids : List (List ℕ)) (g h : List ItemOrFault) (fault : Fault)
    → first_item_fault (judged_items ids g) ≡ Some fault → first_item_fault (judged_items ids (g ++ h)) ≡ Some fault
stays ids [] h fault e = absurd cc
stays ids (fails one ∷ g) h fault e = e
stays ids (gives i ∷ g) h fault e =
    through (item_judged ids i) (judged_items (ids_after_item ids i) g) (judged_items (ids_after_item ids i) (g ++ h))
    fault (stays (ids_after_item ids i) g h fault) e where
      through : (x : ItemOrFault) (g h : List ItemOrFault) (fault : Fault)
          → (first_item_fault g ≡ Some fault → first_item_fault h ≡ Some fault)
          → first_item_fault (x ∷ g) ≡ Some fault
          → first_item_fault (x ∷ h) ≡ Some fault
      through (fails one) g h fault f e = e
      through (gives i) g h fault f e = f e

pub stops_before : (b : Body) (g h : List ItemOrFault) (e : TuneError) → Stops b g e → Stops b (g ++ h) e
stops_before b g h TuneError.Memory s = s
stops_before b g h (TuneError.Fault fault) s = stays b.ids g h fault s

pub stops_after : (a b : Body) (g h : List ItemOrFault) (e : TuneError)
    → Reads a g b → Stops b h e → Stops a (g ++ h) e
stops_after a b g h TuneError.Memory r s = s
stops_after a b g h (TuneError.Fault fault) r s =
    ap (λ x. first_item_fault (judged_items a.ids (g ++ x))) (sym (append-nil h)) ∙ first_more a b g h r ∙ s where
      first_more : (a b : Body) (g h : List ItemOrFault)
          → Reads a g b
          → first_item_fault (judged_items a.ids (g ++ (h ++ []))) ≡ first_item_fault (judged_items b.ids h)
      first_more a b g h r = r.faults (h ++ []) ∙ ap (λ x. first_item_fault (judged_items b.ids x)) (append-nil h)

-- lines one after another
pub line_more : (breaks : Breaks) (ls : List Line) (l : Line) (g h : List ItemOrFault)
    → BodyGives breaks ls g → LineGives breaks l h → BodyGives breaks (ls ++ l ∷ []) (g ++ h)
line_more breaks _ l _ h no_lines one = one_line l [] h [] h one no_lines (sym (append-nil h))
line_more breaks _ l _ h (one_line line lines first others all gives_first gives_others is) one =
    one_line line (lines ++ l ∷ []) first (others ++ h) (all ++ h) gives_first
    (line_more breaks lines l others h gives_others one) (ap (λ x. x ++ h) is ∙ append_assoc first others h)

pub ends : (b c : Body) (g : List ItemOrFault) → Reads b g c → first_item_fault (judged_items b.ids g) ≡ None
ends b c g r = ap (λ x. first_item_fault (judged_items b.ids x)) (sym (append-nil g)) ∙ r.faults []

pub all_items : (b c : Body) (g : List ItemOrFault) → Reads b g c → b.items ≡ [] → c.items ≡ items_in g
all_items b c g r none =
    sym (append-nil c.items) ∙ sym (r.items []) ∙ ap (λ x. x ++ items_in (g ++ [])) none ∙ ap items_in (append-nil g)

pub stops_by : (Gives : List ItemOrFault → Type 0) (b : Body) (g : List ItemOrFault) (e : TuneError)
    → Gives g → Stops b g e → StopsBy Gives b e
stops_by Gives b g TuneError.Memory so s = tt
stops_by Gives b g (TuneError.Fault fault) so s = record { given = g; gives_so = so; stops = s }

-- a token that stops
pub stops_within : (of : Placed → List ItemOrFault) (a b : Body) (all rest more : List Placed) (x : Placed)
    (e : TuneError)
    → ((h : List ItemOrFault)
    → first_item_fault (judged_items a.ids (flat_map of all ++ h))
    ≡ first_item_fault (judged_items b.ids (flat_map of rest ++ h)))
    → rest ≡ x ∷ more → Stops b (of x) e
    → Stops a (flat_map of all) e
stops_within of a b all rest more x TuneError.Memory faults is s = tt
stops_within of a b all rest more x (TuneError.Fault fault) faults is s =
    ap (λ g. first_item_fault (judged_items a.ids g)) (sym (append-nil (flat_map of all)))
    ∙ faults []
    ∙ ap (λ r. first_item_fault (judged_items b.ids (flat_map of r ++ []))) is
    ∙ ap (λ g. first_item_fault (judged_items b.ids g)) (append-nil (of x ++ flat_map of more))
    ∙ stays b.ids (of x) (flat_map of more) fault s

-- one more line
pub lines_more : (breaks : Breaks) (lines : List Line) (i : ℕ) (line : Line) (a b c : Body)
    → i < length lines → line ≡ get_or lines i line
    → ReadsSome (BodyGives breaks (take i lines)) a b → ReadsSome (LineGives breaks line) b c
    → ReadsSome (BodyGives breaks (take (i + 1) lines)) a c
lines_more breaks lines i line a b c inside here so_far one =
    let taken : take i lines ++ line ∷ [] ≡ take (i + 1) lines = ap (λ l. take i lines ++ l ∷ []) here
    ∙ sym (take-suc lines i line inside)
    ∙ ap (λ n. take n lines) (let e : suc i ≡ i + 1 = omega arith in e) in
    record {
      given = so_far.given ++ one.given;
      gives_so =
          subst (λ ls. BodyGives breaks ls (so_far.given ++ one.given)) taken
          (line_more breaks (take i lines) line so_far.given one.given so_far.gives_so one.gives_so);
      reads = reads_both a b c so_far.given one.given so_far.reads one.reads;
    }

pub lines_stop : (breaks : Breaks) (lines : List Line) (i : ℕ) (line : Line) (a b : Body) (e : TuneError)
    → i < length lines → line ≡ get_or lines i line
    → ReadsSome (BodyGives breaks (take i lines)) a b → StopsBy (LineGives breaks line) b e → LinesStop breaks lines a e
lines_stop breaks lines i line a b TuneError.Memory inside here so_far one = tt
lines_stop breaks lines i line a b (TuneError.Fault fault) inside here so_far one =
    let taken : take i lines ++ line ∷ [] ≡ take (i + 1) lines = ap (λ l. take i lines ++ l ∷ []) here
    ∙ sym (take-suc lines i line inside)
    ∙ ap (λ n. take n lines) (let e : suc i ≡ i + 1 = omega arith in e) in (
      i + 1,
      record {
        given = so_far.given ++ one.given;
        gives_so =
            subst (λ ls. BodyGives breaks ls (so_far.given ++ one.given)) taken
            (line_more breaks (take i lines) line so_far.given one.given so_far.gives_so one.gives_so);
        stops = stops_after a b so_far.given one.given (TuneError.Fault fault) so_far.reads one.stops;
      },
    )

added : (a b : Line) (lines : List Line) → a ≡ b → size_of (a ∷ lines) ≡ length b.text + size_of lines
added a b lines e =
    sum_by-cons (λ x. x) (length a.text) (map (λ (line : Line). length line.text) lines)
    ∙ ap (λ (l : Line). length l.text + size_of lines) e

pub size_cut : (lines : List Line) (i : ℕ) (line : Line)
    → i < length lines → line ≡ get_or lines i line
    → size_of (drop i lines) ≡ length line.text + size_of (drop (i + 1) lines)
size_cut lines i line inside here =
    let one : suc i ≡ i + 1 = omega arith in
    let cut : drop i lines ≡ get_or lines i line ∷ drop (suc i) lines = drop-cons lines i line inside in
    ap size_of cut
    ∙ added (get_or lines i line) line (drop (suc i) lines) (sym here)
    ∙ ap (λ n. length line.text + size_of (drop n lines)) one

pub size_after : (lines : List Line) (i : ℕ) (line : Line)
    → i < length lines → line ≡ get_or lines i line → size_of (drop i lines) ≤ 2 ^ 30
    → (length line.text ≤ 2 ^ 30) × (size_of (drop (i + 1) lines) ≤ 2 ^ 30)
size_after lines i line inside here small =
    let whole = size_cut lines i line inside here in (omega (arith, whole, small), omega (arith, whole, small))

-- the whole body
pub body_is : (header : Header) (lines : List Line) (b c : Body)
    → b.ids ≡ declared_ids header → b.items ≡ [] → ReadsSome (BodyGives header.breaks lines) b c
    → IsBody header lines c.items
body_is header lines b c ids items all = record {
  given = all.given;
  gives_so = all.gives_so;
  clear = ap (λ x. first_item_fault (judged_items x all.given)) (sym ids) ∙ ends b c all.given all.reads;
  are = all_items b c all.given all.reads items;
}

pub body_error : (header : Header) (lines : List Line) (b : Body) (e : TuneError)
    → b.ids ≡ declared_ids header → LinesStop header.breaks lines b e → IsBodyError header lines e
body_error header lines b TuneError.Memory ids all = tt
body_error header lines b (TuneError.Fault fault) ids all = record {
  count = all.0;
  given = all.1.given;
  gives_so = all.1.gives_so;
  first = ap (λ x. first_item_fault (judged_items x all.1.given)) (sym ids) ∙ all.1.stops;
}

-- the steps of good items are good
own_good : (own : Bool) (s : PlacedStep) → IsGoodPlacedStep s → All IsGoodPlacedStep (one_if own s)
own_good true s good = All-push IsGoodPlacedStep [] s (All-nil IsGoodPlacedStep) good
own_good false s good = All-nil IsGoodPlacedStep

end_good : (line column : ℕ) → All IsGoodPlacedStep (stood Step.LineEnd line column ∷ [])
end_good line column = All-push IsGoodPlacedStep [] (stood Step.LineEnd line column) (All-nil IsGoodPlacedStep) tt

break_good : (breaks : Bool) (line column : ℕ)
    → All IsGoodPlacedStep (stood Step.LineEnd line column ∷ break_if breaks line column)
break_good true line column =
    All-push IsGoodPlacedStep (stood Step.LineEnd line column ∷ []) (stood Step.Break line column)
    (end_good line column) tt
break_good false line column = end_good line column

clef_good : (named : Bool) (clef : Option Clef) (line column : ℕ)
    → All IsGoodPlacedStep (named_step named clef line column)
clef_good true None line column = All-nil IsGoodPlacedStep
clef_good true (Some clef) line column =
    All-push IsGoodPlacedStep [] (stood (Step.Clef clef) line column) (All-nil IsGoodPlacedStep) tt
clef_good false clef line column = All-nil IsGoodPlacedStep

item_steps_good : (id : List ℕ) (own : Bool) (i : BodyItem) → IsGoodItem i → All IsGoodPlacedStep (steps_in id own i)
item_steps_good id own (BodyItem.Step s) good = own_good own s good
item_steps_good id own (BodyItem.LineEnd joined breaks line column) good = break_good (breaks && own) line column
item_steps_good id own (BodyItem.Voice def line column) good = clef_good (bytes_eq id def.id) def.clef line column
item_steps_good id own (BodyItem.Words text line) good = All-nil IsGoodPlacedStep

pub steps_good : (id : List ℕ) (own : Bool) (items : List BodyItem)
    → All IsGoodItem items → All IsGoodPlacedStep (steps_from id own items)
steps_good id own [] good = All-nil IsGoodPlacedStep
steps_good id own (i ∷ items) good =
    All-append IsGoodPlacedStep (steps_in id own i) (steps_from id (own_next id own i) items)
    (item_steps_good id own i (All-head IsGoodItem i items good))
    (steps_good id (own_next id own i) items (All-tail IsGoodItem i items good))
