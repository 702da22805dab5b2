-- A text of which a prefix has gone out, and the rest that follows.
use Rattle.std.proofs.Common.{◌≡◌, ℕ, suc, ◌+◌, ◌<◌, List, [], ◌∷◌, ◌++◌, length, take, drop, refl, sym, ap, ◌∙◌, subst}
use Rattle.std.proofs.Common.{get_or, add-one, drop-cons, append-nil, append_assoc, length-append, arith, Option}
use Rattle.std.proofs.lemmas.List.{take-append-le}
use Rattle.std.proofs.Math.Seq.{drop-length, take-append-add}
use Rattle.std.proofs.KnownBytes.{Appends-nil, Appends-trans}
use Rattle.std.specs.Io.KnownBytes.{Appends}
use Rattle.ps_text.specs.Document.{document, numbered, document_page, trailer}
use Rattle.ps_text.specs.Prolog.{prolog}
use Rattle.ps_text.specs.declared.sheet.Page.{Page}
use Rattle.ps_text.specs.declared.sheet.Sheet.{Sheet}
use Rattle.eng_io.specs.Streams.{Stream}
use Rattle.ps_write.specs.{Written.{WrotePrefix, counted_from}, declared.steps.DocError.DocError}

-- a prefix of the text went out, after which this many bytes were written, and the rest of it follows
pub record Sent (old new : Option (List ℕ)) (start written : ℕ) (rest all : List ℕ) : Type 0 where
  pub prefix : List ℕ
  pub whole : all ≡ prefix ++ rest
  pub sent : Appends old new prefix
  pub count : written ≡ start + length prefix

pub sent_none : (old : Option (List ℕ)) (start : ℕ) (all : List ℕ) → Sent old old start start all all
sent_none old start all = record { prefix = []; whole = refl; sent = Appends-nil old; count = omega arith }

-- the next part went out
pub sent_more : (old mid new : Option (List ℕ)) (start before written : ℕ) (text rest all : List ℕ)
    → Sent old mid start before (text ++ rest) all → Appends mid new text → written ≡ before + length text
    → Sent old new start written rest all
sent_more old mid new start before written text rest all s p e = record {
  prefix = s.prefix ++ text;
  whole = s.whole ∙ sym (append_assoc s.prefix text rest);
  sent = Appends-trans old mid new s.prefix text s.sent p;
  count = omega (arith, length-append s.prefix text, s.count, e);
}

-- the whole text went out
pub sent_all : (old new : Option (List ℕ)) (start written : ℕ) (all : List ℕ)
    → Sent old new start written [] all → Appends old new all × (written ≡ start + length all)
sent_all old new start written all s =
    let e : s.prefix ≡ all = sym (s.whole ∙ append-nil s.prefix) in (
      subst (λ (text : List ℕ). Appends old new text) e s.sent,
      subst (λ (text : List ℕ). written ≡ start + length text) e s.count,
    )

-- the rest of what was written of a text, as one stream
abbrev pub stream : Option (List ℕ) → Option (List ℕ) → ℕ → ℕ → Stream
stream before after count_before count_after =
    record { before = before; after = after; count_before = count_before; count_after = count_after }

-- a first part that failed
pub wrote_first : (s : Stream) (text rest : List ℕ) (e : DocError)
    → WrotePrefix s text e → WrotePrefix s (text ++ rest) e
wrote_first s text rest (DocError.Write e) w =
    (rw (take-append-le e.written text rest w.1) w.0, omega (arith, length-append text rest, w.1), w.2)
wrote_first s text rest DocError.Memory w =
    (w.0, (rw (take-append-le w.0 text rest w.1.1) w.1.0, omega (arith, length-append text rest, w.1.1), w.1.2))

-- a second part that failed, counted for both
pub wrote_second : (old : Option (List ℕ)) (count : ℕ) (s : Stream) (prefix text : List ℕ) (n : ℕ) (e : DocError)
    → length prefix ≡ n → Appends old s.before prefix → s.count_before ≡ count → WrotePrefix s text e
    → WrotePrefix (stream old s.after count s.count_after) (prefix ++ text) (counted_from n e)
wrote_second old count s prefix text n (DocError.Write e) k p same w = (
  rw (← k, take-append-add prefix text e.written)
      (Appends-trans old s.before s.after prefix (take e.written text) p w.0),
  omega (arith, length-append prefix text, w.1, k),
  rw same at w.2,
)
wrote_second old count s prefix text n DocError.Memory k p same w = (
  n + w.0,
  (
    rw (← k, take-append-add prefix text w.0) (Appends-trans old s.before s.after prefix (take w.0 text) p w.1.0),
    omega (arith, length-append prefix text, w.1.1, k),
    w.1.2 ∙ same,
  ),
)

-- a part that failed after n bytes, counted for the whole
pub wrote_part : (old : Option (List ℕ)) (count : ℕ) (s : Stream) (start before n : ℕ) (text rest all : List ℕ)
    (e : DocError)
    → Sent old s.before start before (text ++ rest) all → start + n ≡ before → s.count_before ≡ count
    → WrotePrefix s text e
    → WrotePrefix (stream old s.after count s.count_after) all (counted_from n e)
wrote_part old count s start before n text rest all e sent k same w =
    subst (λ (bytes : List ℕ). WrotePrefix (stream old s.after count s.count_after) bytes (counted_from n e))
    (sym sent.whole)
    (wrote_second old count s sent.prefix (text ++ rest) n e (omega (arith, sent.count, k)) sent.sent same
    (wrote_first s text rest e w))

-- a document is its prolog, its pages and its trailer
pub document_start : (s : Sheet)
    → document s ≡ prolog s.frame ++ (numbered document_page 1 s.pages ++ trailer (length s.pages))
unfolding document
document_start s = append_assoc (prolog s.frame) (numbered document_page 1 s.pages) (trailer (length s.pages))

-- page i is the first of those that follow
pub next_page : (k i : ℕ) (pages : List Page) (p : Page)
    → i < length pages → p ≡ get_or pages i p
    → numbered document_page k (drop i pages) ≡ document_page k p ++ numbered document_page (k + 1) (drop (i + 1) pages)
next_page k i pages p l g =
    let first : drop i pages ≡ p ∷ drop (i + 1) pages =
    rw add-one (drop-cons pages i p l ∙ ap (λ (q : Page). q ∷ drop (suc i) pages) (sym g)) in
    ap (λ ps. numbered document_page k ps) first

pub page_then : (k i : ℕ) (pages : List Page) (p : Page) (tail : List ℕ)
    → i < length pages → p ≡ get_or pages i p
    → numbered document_page k (drop i pages) ++ tail
    ≡ document_page k p ++ (numbered document_page (k + 1) (drop (i + 1) pages) ++ tail)
page_then k i pages p tail l g =
    ap (λ text. text ++ tail) (next_page k i pages p l g)
    ∙ append_assoc (document_page k p) (numbered document_page (k + 1) (drop (i + 1) pages)) tail

-- nothing comes between all pages and the end
pub no_page : (k i : ℕ) (pages : List Page) (tail : List ℕ)
    → i ≡ length pages → numbered document_page k (drop i pages) ++ tail ≡ tail ++ []
no_page k i pages tail e = rw (e, drop-length pages) (sym (append-nil tail))
