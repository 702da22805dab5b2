-- The text of a listing, added in its parts.
use Rattle.std.proofs.Common.{◌≡◌, ℕ, List, [], ◌∷◌, ◌++◌, Result, Ok, Err, refl, sym, ◌∙◌, ap}
use Rattle.std.proofs.lemmas.List.{append_assoc}
use Rattle.std.specs.List.{cons_option}
use Rattle.abc_lines.specs.declared.fault.Fault.{Fault}
use Rattle.lay_cert.specs.Lines.{lines_then}
use Rattle.lay_cert.specs.Listing.{entries_text}
use Rattle.lay_cert.specs.declared.lines.ListingLine.{ListingLine}
use Rattle.lay_cert.proofs.Put.{in_parts}
use Rattle.set_tune.specs.declared.tune.SetTune.{SetTune}
use Rattle.set_book.specs.declared.outcome.Outcome.{Outcome}
use Rattle.set_lists.specs.Listing.{entries_of, listing_text, outcomes_text, result_entry, result_text}

outcomes_are : (os : List Outcome) → outcomes_text os ≡ entries_text (entries_of os)
unfolding outcomes_text
outcomes_are [] = refl
outcomes_are (o ∷ os) = ap (λ t. result_text o.ordinal o.result ++ t) (outcomes_are os) ∙ at o.result
  where
    at : (r : Result SetTune Fault)
        → result_text o.ordinal r ++ entries_text (entries_of os)
        ≡ entries_text (cons_option (result_entry o.ordinal r) (entries_of os))
    at (Ok t) = refl
    at (Err fault) = refl

-- the first line, the entries and the last line added
pub put_all : (os : List Outcome) (old one two three : List ℕ)
    → one ≡ old ++ lines_then (ListingLine.Listing ∷ []) [] → two ≡ one ++ outcomes_text os
    → three ≡ two ++ lines_then (ListingLine.End ∷ []) [] → three ≡ old ++ listing_text os
put_all os old one two three e f g =
    let first = lines_then (ListingLine.Listing ∷ []) [] in
    let last = lines_then (ListingLine.End ∷ []) [] in
    let middle = outcomes_text os in
    g
    ∙ (ap (λ t. t ++ last) (f ∙ ap (λ t. t ++ middle) e)
    ∙ (append_assoc (old ++ first) middle last ∙ (append_assoc old first (middle ++ last)
    ∙ ap (λ t. old ++ t) (ap (λ t. first ++ (t ++ last)) (outcomes_are os) ∙ sym (in_parts (entries_of os))))))
