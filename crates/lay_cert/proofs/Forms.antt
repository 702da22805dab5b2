-- The text of a line, with each part before what follows it.
use Rattle.std.proofs.Common.{◌≡◌, ℕ, ◌∷◌, ◌++◌, ap, codes, decimal}
use mathlib.Core.List.{append_assoc}
use Rattle.lay_breaks.specs.declared.costs.Span.{Span}
use Rattle.lay_cert.specs.Lines.{line_text}
use Rattle.lay_cert.specs.declared.lines.ListingLine.{ListingLine}

pub span_text : (s : Span)
    → line_text (ListingLine.OneSpan s)
    ≡ codes "span " ++ (decimal s.a ++ (32 ∷ (decimal s.b ++ (32 ∷ decimal s.badness))))
span_text s = ap (λ t. codes "span " ++ t) (append_assoc (decimal s.a) (32 ∷ decimal s.b) (32 ∷ decimal s.badness))

pub tune_text : (tune bars : ℕ)
    → line_text (ListingLine.Tune tune bars)
    ≡ codes "tune " ++ (decimal tune ++ (32 ∷ (codes "measures " ++ decimal bars)))
tune_text tune bars = ap (λ t. codes "tune " ++ t) (append_assoc (decimal tune) (32 ∷ codes "measures ") (decimal bars))
