-- A text is split into good lines in one way.
use Rattle.std.proofs.Common.{◌≡◌, ℕ, ◌+◌, ◌≤◌, List, [], ◌∷◌, ◌++◌, length, refl, sym, ◌∙◌, ap, subst, arith}
use Rattle.std.proofs.Common.{length-append}
use mathlib.Core.List.{append_assoc}
use Rattle.eng_lines.specs.Lines.{Lacks}
use Rattle.eng_lines.proofs.Words.{one_cut, lacks_none}
use Rattle.eng_reader.specs.Grammar.{Grammar, lines_then, Leads, IsReached, IsUnambiguous}
use Rattle.eng_reader.specs.Answers.{IsGoodThroughout, IsFirstFault, NoneComes, Comes}

-- ---- lines one after another
pub lines_both : {Line : Type 0} (line_text : Line → List ℕ) (ls ms : List Line) (rest : List ℕ)
    → lines_then line_text (ls ++ ms) rest ≡ lines_then line_text ls (lines_then line_text ms rest)
lines_both t [] ms rest = refl
lines_both t (l ∷ ls) ms rest = ap (λ s. t l ++ 10 ∷ s) (lines_both t ls ms rest)

pub lines_on : {Line : Type 0} (line_text : Line → List ℕ) (ls : List Line) (more : List ℕ)
    → lines_then line_text ls [] ++ more ≡ lines_then line_text ls more
lines_on t [] more = refl
lines_on t (l ∷ ls) more =
    append_assoc (t l) (10 ∷ lines_then t ls []) more ∙ ap (λ s. t l ++ 10 ∷ s) (lines_on t ls more)

-- no text with a line end is empty
pub no_line : (text more : List ℕ) → [] ≡ text ++ 10 ∷ more → ⊥
no_line text more e = let n = ap length e in let k = length-append text (10 ∷ more) in omega (arith, n, k)

pub leads_both : (g : Grammar) (p : g.State) (ls : List g.Line) (q : g.State) (ms : List g.Line) (r : g.State)
    → Leads g p ls q → Leads g q ms r → Leads g p (ls ++ ms) r
leads_both g p [] q ms r h k = subst (λ q. Leads g q ms r) (sym h) k
leads_both g p (l ∷ ls) q ms r h k = (h.0, leads_both g (g.state_after p l) ls q ms r h.1 k)

pub leads_more : (g : Grammar) (p : g.State) (ls : List g.Line) (q : g.State) (l : g.Line)
    → Leads g p ls q → g.MayCome q l → Leads g p (ls ++ l ∷ []) (g.state_after q l)
leads_more g p ls q l h may = leads_both g p ls q (l ∷ []) (g.state_after q l) h (may, refl)

reached_more : (g : Grammar) (p : g.State) (l : g.Line)
    → IsReached g p → g.MayCome p l → IsReached g (g.state_after p l)
reached_more g p l h may = (h.0 ++ l ∷ [], leads_more g g.begun h.0 p l h.1 may)

-- ---- good lines through the same text
one_way : (g : Grammar) (u : IsUnambiguous g) (p : g.State) (ls ms : List g.Line) (whole other : g.Whole)
    (more : List ℕ)
    → IsReached g p → Leads g p ls (g.ended whole) → Leads g p ms (g.ended other)
    → lines_then g.line_text ls more ≡ lines_then g.line_text ms []
    → (other ≡ whole) × (more ≡ [])
one_way g u p [] [] whole other more r h k e = (u.one_whole whole other (sym h ∙ k), e)
one_way g u p [] (m ∷ ms) whole other more r h k e = absurd (u.last whole m (subst (λ p. g.MayCome p m) h k.0))
one_way g u p (l ∷ ls) [] whole other more r h k e = absurd (u.last other l (subst (λ p. g.MayCome p l) k h.0))
one_way g u p (l ∷ ls) (m ∷ ms) whole other more r h k e =
    let c = one_cut 10 (g.line_text l) (g.line_text m) (lines_then g.line_text ls more) (lines_then g.line_text ms [])
    (u.unbroken p l r h.0) (u.unbroken p m r k.0) e in
    one_way g u (g.state_after p l) ls ms whole other more (reached_more g p l r h.0) h.1
    (subst (λ q. Leads g q ms (g.ended other)) (u.one_state p l m r h.0 k.0 c.0) k.1) c.1

-- a text says one thing at most
pub one_whole : (g : Grammar) → IsUnambiguous g → (text : List ℕ) (whole other : g.Whole)
    → IsGoodThroughout g text whole → IsGoodThroughout g text other → other ≡ whole
one_whole g u text whole other h k =
    (one_way g u g.begun h.0 k.0 whole other [] ([], refl) h.2 k.2 (sym h.1 ∙ k.1)).0

-- no proper continuation of a text that is good throughout is good throughout
pub no_prefix : (g : Grammar) → IsUnambiguous g → (text more : List ℕ) (whole other : g.Whole)
    → IsGoodThroughout g text whole → IsGoodThroughout g (text ++ more) other → more ≡ []
no_prefix g u text more whole other h k =
    (one_way g u g.begun h.0 k.0 whole other more ([], refl) h.2 k.2
    (sym (lines_on g.line_text h.0 more) ∙ (ap (λ t. t ++ more) (sym h.1) ∙ k.1))).1

-- no good line comes next, and this isn't the end
pub record IsStuck (g : Grammar) (p : g.State) (rest : List ℕ) : Type 0 where
  pub line : (l : g.Line) (more : List ℕ) → rest ≡ g.line_text l ++ 10 ∷ more → g.MayCome p l → ⊥
  pub last : (whole : g.Whole) → rest ≡ [] → p ≡ g.ended whole → ⊥

-- where good lines through a text are stuck, no others go on, and none reach the end
record IsNoFurther (g : Grammar) (ls ms : List g.Line) (q : g.State) (rest : List ℕ) : Type 0 where
  short : length ms ≤ length ls
  unfinished : (whole : g.Whole) → rest ≡ [] → q ≡ g.ended whole → ⊥

no_further : (g : Grammar) (u : IsUnambiguous g) (p : g.State) (ls ms : List g.Line) (q s : g.State)
    (rest more : List ℕ)
    → IsReached g p → Leads g p ls q → IsStuck g q rest → Leads g p ms s
    → lines_then g.line_text ls rest ≡ lines_then g.line_text ms more
    → IsNoFurther g ls ms s more
no_further g u p [] [] q s rest more r h stuck k e =
    record { short = omega arith; unfinished = λ whole none is. stuck.last whole (e ∙ none) (sym h ∙ (k ∙ is)) }
no_further g u p [] (m ∷ ms) q s rest more r h stuck k e =
    absurd (stuck.line m (lines_then g.line_text ms more) e (subst (λ p. g.MayCome p m) h k.0))
no_further g u p (l ∷ ls) [] q s rest more r h stuck k e = record {
  short = omega arith;
  unfinished = λ whole none is. no_line (g.line_text l) (lines_then g.line_text ls rest) (sym none ∙ sym e);
}
no_further g u p (l ∷ ls) (m ∷ ms) q s rest more r h stuck k e =
    let c = one_cut 10 (g.line_text l) (g.line_text m) (lines_then g.line_text ls rest)
    (lines_then g.line_text ms more) (u.unbroken p l r h.0) (u.unbroken p m r k.0) e in
    let w = no_further g u (g.state_after p l) ls ms q s rest more (reached_more g p l r h.0) h.1 stuck
    (subst (λ q. Leads g q ms s) (u.one_state p l m r h.0 k.0 c.0) k.1) c.1 in
    let n = w.short in
    record { short = omega (arith, n); unfinished = w.unfinished }

-- ---- what holds before each line
pub record IsReading (g : Grammar) (text : List ℕ) (p : g.State) (rest : List ℕ) (number : ℕ) : Type 0 where
  pub lines : List g.Line
  pub so_far : text ≡ lines_then g.line_text lines rest
  pub leads : Leads g g.begun lines p
  pub counted : number ≡ length lines + 1

pub reading_more : (g : Grammar) (text : List ℕ) (p : g.State) (rest raw following : List ℕ) (number : ℕ)
    (P : g.State → Type 0)
    → IsReading g text p rest number → rest ≡ raw ++ 10 ∷ following → (c : Comes g p raw P)
    → IsReading g text (g.state_after p c.line) following (number + 1)
reading_more g text p rest raw following number P h cut c =
    let n = h.counted in let k = length-append h.lines (c.line ∷ []) in
    record {
      lines = h.lines ++ c.line ∷ [];
      so_far =
          h.so_far
          ∙ (ap (λ r. lines_then g.line_text h.lines r) (cut ∙ ap (λ r. r ++ 10 ∷ following) c.spelled)
          ∙ sym (lines_both g.line_text h.lines (c.line ∷ []) following));
      leads = leads_more g g.begun h.lines p c.line h.leads c.may;
      counted = omega (arith, n, k);
    }

pub stuck_at_line : (g : Grammar) → IsUnambiguous g → (text : List ℕ) (p : g.State) (rest raw following : List ℕ)
    (number : ℕ)
    → IsReading g text p rest number → rest ≡ raw ++ 10 ∷ following → Lacks 10 raw → NoneComes g p raw
    → IsStuck g p rest
stuck_at_line g u text p rest raw following number h cut lacks none = record {
  line =
      λ l more e may.
      none l
      (one_cut 10 raw (g.line_text l) following more lacks (u.unbroken p l (h.lines, h.leads) may) (sym cut ∙ e)).0 may;
  last = λ whole e is. no_line raw following (sym e ∙ cut);
}

pub stuck_at_end : (g : Grammar) (p : g.State) (rest : List ℕ)
    → Lacks 10 rest → ((whole : g.Whole) → rest ≡ [] → p ≡ g.ended whole → ⊥) → IsStuck g p rest
stuck_at_end g p rest lacks f =
    record { line = λ l more e may. lacks_none 10 (g.line_text l) more rest lacks e; last = f }

pub first_fault : (g : Grammar) → IsUnambiguous g → (text : List ℕ) (p : g.State) (rest : List ℕ) (number : ℕ)
    → IsReading g text p rest number → IsStuck g p rest → IsFirstFault g text number
first_fault g u text p rest number h stuck = record {
  before = length h.lines;
  good = record { lines = h.lines; rest = rest; state = p; parted = h.so_far; leads = h.leads; counted = refl };
  after = h.counted;
  bad = λ good.
      let n = (no_further g u g.begun h.lines good.lines p good.state rest good.rest ([], refl) h.leads stuck good.leads
      (sym h.so_far ∙ good.parted)).short in
      let c = good.counted in
      omega (arith, n, c);
  unfinished = λ whole k.
      (no_further g u g.begun h.lines k.0 p (g.ended whole) rest [] ([], refl) h.leads stuck k.2
      (sym h.so_far ∙ k.1)).unfinished whole refl refl;
}

pub read_all : (g : Grammar) (text : List ℕ) (p : g.State) (rest : List ℕ) (number : ℕ) (whole : g.Whole)
    → IsReading g text p rest number → rest ≡ [] → p ≡ g.ended whole → IsGoodThroughout g text whole
read_all g text p rest number whole h none is = (
  h.lines,
  h.so_far ∙ ap (λ r. lines_then g.line_text h.lines r) none,
  subst (λ p. Leads g g.begun h.lines p) is h.leads,
)
