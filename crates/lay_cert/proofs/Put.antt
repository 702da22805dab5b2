-- The text of lines, one after the other.
use Rattle.std.proofs.Common.{decimal, ◌≡◌, ℕ, ◌+◌, ◌<◌, List, [], ◌∷◌, ◌++◌, length, map, take, Option, None, refl}
use Rattle.std.proofs.Common.{sym, ◌∙◌, ap, arith, slice_index_or, rules}
use Rattle.std.proofs.lemmas.List.{map-append, take_more, length-take}
use mathlib.Core.List.{append_assoc, append-nil}
use Rattle.lay_cert.specs.Lines.{line_text, lines_then}
use Rattle.lay_cert.specs.Laws.{InParts}
use Rattle.lay_cert.specs.Reports.{bars_text}
use Rattle.lay_cert.specs.Listing.{Entry, entry_lines, all_lines, entries_text, potential_lines}
use Rattle.lay_cert.specs.declared.lines.ListingLine.{ListingLine}
use Rattle.lay_cert.proofs.Grown.{push_potential}

pub lines_both : (ls ms : List ListingLine) → lines_then (ls ++ ms) [] ≡ lines_then ls [] ++ lines_then ms []
lines_both [] ms = refl
lines_both (l ∷ ls) ms =
    ap (λ t. line_text l ++ 10 ∷ t) (lines_both ls ms)
    ∙ sym (append_assoc (line_text l) (10 ∷ lines_then ls []) (lines_then ms []))

-- further lines added
pub put_both : (old now new : List ℕ) (ls ms : List ListingLine)
    → now ≡ old ++ lines_then ls [] → new ≡ now ++ lines_then ms [] → new ≡ old ++ lines_then (ls ++ ms) []
put_both old now new ls ms e f = rw (f, e, lines_both ls ms) (append_assoc old (lines_then ls []) (lines_then ms []))

pub put_next : {A : Type 0} (f : A → ListingLine) (xs : List A) (i : ℕ) (d : A) (old now new : List ℕ) → i < length xs
    → now ≡ old ++ lines_then (map f (take i xs)) []
    → new ≡ now ++ lines_then (f (slice_index_or xs i d) ∷ []) []
    → new ≡ old ++ lines_then (map f (take (i + 1) xs)) []
put_next f xs i d old now new l e g =
    put_both old now new (map f (take i xs)) (f (slice_index_or xs i d) ∷ []) e g
    ∙ (ap (λ ls. old ++ lines_then ls []) (sym (map-append f (take i xs) (slice_index_or xs i d ∷ [])))
    ∙ ap (λ t. old ++ lines_then (map f t) []) (sym (take_more xs i d l)))

pub put_next_potential : (ps : List (Option ℕ)) (i bar : ℕ) (old now new : List ℕ) → i < length ps → bar ≡ i
    → now ≡ old ++ lines_then (potential_lines 0 (take i ps)) []
    → new ≡ now ++ lines_then (ListingLine.Potential bar (slice_index_or ps i None) ∷ []) []
    → new ≡ old ++ lines_then (potential_lines 0 (take (i + 1) ps)) []
put_next_potential ps i bar old now new l is e g =
    let n : length (take i ps) ≡ i = search (rules, length-take) in
    let at : 0 + length (take i ps) ≡ bar = omega arith in
    put_both old now new (potential_lines 0 (take i ps)) (ListingLine.Potential bar (slice_index_or ps i None) ∷ []) e g
    ∙ (ap (λ j.
    old ++ lines_then (potential_lines 0 (take i ps) ++ ListingLine.Potential j (slice_index_or ps i None) ∷ []) [])
    (sym at)
    ∙ (ap (λ ls. old ++ lines_then ls []) (sym (push_potential 0 (take i ps) (slice_index_or ps i None)))
    ∙ ap (λ t. old ++ lines_then (potential_lines 0 t) []) (sym (take_more ps i None l))))

-- the lines of an entry added in their parts
pub put_whole : (old one two three four five : List ℕ) (t m : ListingLine) (ss cs ps : List ListingLine)
    → one ≡ old ++ lines_then (t ∷ []) [] → two ≡ one ++ lines_then ss [] → three ≡ two ++ lines_then cs []
    → four ≡ three ++ lines_then (m ∷ []) [] → five ≡ four ++ lines_then ps []
    → five ≡ old ++ lines_then ((t ∷ ss) ++ cs ++ (m ∷ ps)) []
put_whole old one two three four five t m ss cs ps a b c d e =
    let x = put_both old one two (t ∷ []) ss a b in
    let y = put_both old two three (t ∷ ss) cs x c in
    let z = put_both old three four ((t ∷ ss) ++ cs) (m ∷ []) y d in
    put_both old four five (((t ∷ ss) ++ cs) ++ m ∷ []) ps z e
    ∙ ap (λ ls. old ++ lines_then ls []) (append_assoc ((t ∷ ss) ++ cs) (m ∷ []) ps)

entries_are : (es : List Entry) → lines_then (all_lines es) [] ≡ entries_text es
entries_are [] = refl
entries_are (e ∷ es) =
    lines_both (entry_lines e) (all_lines es) ∙ ap (λ t. lines_then (entry_lines e) [] ++ t) (entries_are es)

pub in_parts : InParts
in_parts es =
    lines_both (ListingLine.Listing ∷ all_lines es) (ListingLine.End ∷ [])
    ∙ ap (λ t. t ++ lines_then (ListingLine.End ∷ []) []) (lines_both (ListingLine.Listing ∷ []) (all_lines es)
    ∙ ap (λ t. lines_then (ListingLine.Listing ∷ []) [] ++ t) (entries_are es))

bars_more : (bs : List ℕ) (b : ℕ) → bars_text (bs ++ b ∷ []) ≡ bars_text bs ++ (32 ∷ decimal b)
bars_more [] b = append-nil (32 ∷ decimal b)
bars_more (x ∷ bs) b =
    ap (λ t. 32 ∷ decimal x ++ t) (bars_more bs b) ∙ sym (append_assoc (32 ∷ decimal x) (bars_text bs) (32 ∷ decimal b))

-- one more bar added
pub put_next_bar : (bs : List ℕ) (i : ℕ) (old now new : List ℕ)
    → i < length bs → now ≡ old ++ bars_text (take i bs) → new ≡ now ++ (32 ∷ decimal (slice_index_or bs i 0))
    → new ≡ old ++ bars_text (take (i + 1) bs)
put_next_bar bs i old now new l e f =
    f
    ∙ (ap (λ t. t ++ (32 ∷ decimal (slice_index_or bs i 0))) e
    ∙ (append_assoc old (bars_text (take i bs)) (32 ∷ decimal (slice_index_or bs i 0))
    ∙ (ap (λ t. old ++ t) (sym (bars_more (take i bs) (slice_index_or bs i 0)))
    ∙ ap (λ t. old ++ bars_text t) (sym (take_more bs i 0 l)))))
