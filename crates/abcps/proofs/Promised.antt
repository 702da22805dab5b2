-- The promises of a run, by cases on its status.
use Rattle.std.proofs.Common.{◌≡◌, refl, sym, ◌∙◌, ap, subst, ◌⊎◌, inl, inr, ℕ, ◌≤◌, List, ◌++◌, length, length-append}
use Rattle.std.proofs.Common.{append-nil, Option, Some, None, arith}
use Rattle.std.specs.Io.KnownBytes.{Consumes, IsAtEnd}
use Rattle.eng_io.specs.Streams.{IsQuiet, ReadAll, ReadTooMuch, Stream, WroteWhole}
use Rattle.abcps_words.specs.{Command.{Asks, AsksOne, IsListed, limit_of}, declared.command.Command.Command}
use Rattle.abcps.specs.Called.{Called}
use Rattle.abcps.specs.Calls.{Calls, CallsOne, NeverBoth, Refuses}
use Rattle.abcps.specs.Refusals.{IsRefusalStatus}
use Rattle.abcps.specs.declared.refusing.Refusal.{Refusal}
use Rattle.abcps.specs.declared.status.Status.{Status}
use Rattle.abcps.specs.Outcome.{FailedToWrite, HoldsPart, IsCommandAnswer, IsInputRead, ReadsInput}
use Rattle.abcps.specs.Outcome.{IsRunAnswer, WriteFailed, RefusedInput}
use Rattle.abcps.specs.Promises.{IsDone, IsRunOn, IsRefused, IsReportedOn, AsksWholeText, NoFault, Promises}

-- a source whose bytes are known was read to its end: they are the text
whole_read : (before after : Option (List ℕ)) (reported text : List ℕ)
    → before ≡ Some reported → Consumes before after text → IsAtEnd after → text ≡ reported
whole_read None after reported text e taken end = cc
whole_read (Some xs) None reported text e taken end = absurd taken
whole_read (Some xs) (Some ys) reported text e taken end =
    let all : xs ≡ reported = cc in sym (sym all ∙ taken ∙ ap (λ zs. text ++ zs) end ∙ append-nil text)

-- what was read is no longer than what there was
taken_short : (before after : Option (List ℕ)) (reported text : List ℕ)
    → before ≡ Some reported → Consumes before after text → length text ≤ length reported
taken_short None after reported text e taken = cc
taken_short (Some xs) None reported text e taken = absurd taken
taken_short (Some xs) (Some ys) reported text e taken =
    let all : xs ≡ reported = cc in
    let sum : length reported ≡ length (text ++ ys) = ap length (sym all ∙ taken) in
    let both = length-append text ys in
    omega arith

module _ (alone : CallsOne) (either : NeverBoth) (words : List (List ℕ)) (i o e : Stream) where
  usage_by : (s : Status) → IsRunAnswer s words i o e → (IsListed words → ⊥) → s ≡ Status.Usage
  usage_by Status.Usage run not = refl
  usage_by s run not = absurd (not (run.0, run.1))

  -- the answer when both texts are written
  done_with : (c : Command) (text : List ℕ) (s : Status)
      → (called : Called) → Calls c text called → s ≡ called.status → WroteWhole o called.page
      → WroteWhole e called.reported
      → IsDone c s text o e
  done_with c text s called calls ends page reported = record {
    called = called;
    calls = calls;
    only = λ d other same more. alone c d text called other same calls more;
    unrefused = λ refusal refuses. either c text called refusal calls refuses;
    ends = ends;
    page = page;
    reported = reported;
  }

  done_by : (s : Status) → IsRunAnswer s words i o e → (s ≡ Status.Usage → ⊥) → (s ≡ Status.ReadFault → ⊥)
      → (s ≡ Status.TooLong → ⊥)
      → (IsRefusalStatus s → ⊥)
      → (s ≡ Status.WriteFault → ⊥) → (s ≡ Status.Memory → ⊥)
      → (c : Command) × (text : List ℕ) × AsksWholeText c words i text × IsDone c s text o e
  done_by Status.Usage run a b c d f g = absurd (a refl)
  done_by Status.ReadFault run a b c d f g = absurd (b refl)
  done_by Status.TooLong run a b c d f g = absurd (c refl)
  done_by Status.NotPages run a b c d f g = absurd (d tt)
  done_by Status.Halted run a b c d f g = absurd (d tt)
  done_by Status.WriteFault run a b c d f g = absurd (f refl)
  done_by Status.Memory run a b c d f g = absurd (g refl)
  done_by s run a b c d f g =
      let r = run.2.2 in
      (run.0, run.2.0, record { asked = run.1; read = run.2.1 }, done_with run.0 run.2.0 s r.0 r.1 r.2 r.3 r.4)

  memory_part : (c : Command)
      → Asks words c
      → (IsQuiet o ⊎ ((text : List ℕ) × IsInputRead c i text × HoldsPart c text o))
      → IsQuiet o ⊎ ((c : Command) × (text : List ℕ) × AsksWholeText c words i text × HoldsPart c text o)
  memory_part c asked (inl none) = inl none
  memory_part c asked (inr part) = inr (c, part.0, record { asked = asked; read = part.1 }, part.2)

  memory_by : IsRunAnswer Status.Memory words i o e
      → IsQuiet e × (IsQuiet o ⊎ ((c : Command) × (text : List ℕ) × AsksWholeText c words i text × HoldsPart c text o))
  memory_by run = (run.2.0, memory_part run.0 run.1 run.2.1)

  -- the text that a command read is that of the input
  reported_all : (most : ℕ) (reported text : List ℕ) → i.before ≡ Some reported → ReadAll most i text → text ≡ reported
  reported_all most reported text is read = whole_read i.before i.after reported text is read.taken read.whole

  -- a command reads its input, or none
  reads_or_not : (c : Command) → ReadsInput c ⊎ (ReadsInput c → ⊥)
  reads_or_not (Command.Make tunes) = inr (λ reads. reads)
  reads_or_not (Command.Trial tunes flow jobs even) = inr (λ reads. reads)
  reads_or_not c = inl tt

  reported_reader : (c : Command) (reported : List ℕ)
      → ReadsInput c → IsReportedOn c i reported → (i.before ≡ Some reported) × (length reported ≤ limit_of c)
  reported_reader (Command.Make tunes) reported reads is = absurd reads
  reported_reader (Command.Trial tunes flow jobs even) reported reads is = absurd reads
  reported_reader c reported reads is = is

  read_reader : (c : Command) (text : List ℕ) → ReadsInput c → IsInputRead c i text → ReadAll (limit_of c) i text
  read_reader (Command.Make tunes) text reads read = absurd reads
  read_reader (Command.Trial tunes flow jobs even) text reads read = absurd reads
  read_reader c text reads read = read

  read_reported : (c : Command) (reported text : List ℕ)
      → ReadsInput c → IsReportedOn c i reported → IsInputRead c i text → text ≡ reported
  read_reported c reported text reads is read =
      reported_all (limit_of c) reported text (reported_reader c reported reads is).0 (read_reader c text reads read)

  -- a command that reads nothing calls for the same with any text
  unread_calls : (c : Command) (reported text : List ℕ) (called : Called)
      → (ReadsInput c → ⊥) → Calls c text called → Calls c reported called
  unread_calls (Command.Make tunes) reported text called not calls = calls
  unread_calls (Command.Trial tunes flow jobs even) reported text called not calls = calls
  unread_calls c reported text called not calls = absurd (not tt)

  calls_reported : (c : Command) (reported text : List ℕ) (called : Called)
      → IsReportedOn c i reported → IsInputRead c i text → Calls c text called → Calls c reported called
  calls_reported c reported text called is read calls = by_reading (reads_or_not c)
    where
      by_reading : ReadsInput c ⊎ (ReadsInput c → ⊥) → Calls c reported called
      by_reading (inl reads) = subst (λ t. Calls c t called) (read_reported c reported text reads is read) calls
      by_reading (inr not) = unread_calls c reported text called not calls

  -- what was called for was done, for the text of the input
  done_reported : (c : Command) (reported : List ℕ) (s : Status)
      → IsReportedOn c i reported → (text : List ℕ) → IsInputRead c i text
      → (called : Called) → Calls c text called → s ≡ called.status → WroteWhole o called.page
      → WroteWhole e called.reported
      → IsDone c s reported o e
  done_reported c reported s is text read called calls ends page tells =
      done_with c reported s called (calls_reported c reported text called is read calls) ends page tells

  -- an input that was refused
  refused_with : (c : Command) (text : List ℕ) (s : Status) → RefusedInput c s text o e → IsRefused c s text o e
  refused_with c text s r = record {
    refusal = r.0;
    refuses = r.1;
    uncalled = λ called calls. either c text called r.0 calls r.1;
    ends = r.2;
    quiet = r.3;
    reported = r.4;
  }

  -- a command that refuses its input reads it
  refused_reads : (c : Command) (text : List ℕ) (refusal : Refusal) → Refuses c text refusal → ReadsInput c
  refused_reads Command.Inspect text refusal refuses = tt
  refused_reads Command.Check text refusal refuses = tt
  refused_reads (Command.Hear spread) text refusal refuses = tt
  refused_reads Command.Paint text refusal refuses = tt
  refused_reads c text refusal refuses = absurd refuses

  refused_reported : (c : Command) (reported : List ℕ) (s : Status)
      → IsReportedOn c i reported → (text : List ℕ) → IsInputRead c i text → RefusedInput c s text o e
      → IsRefused c s reported o e
  refused_reported c reported s is text read r =
      refused_with c reported s (
        r.0,
        subst (λ t. Refuses c t r.0) (read_reported c reported text (refused_reads c text r.0 r.1) is read) r.1,
        r.2,
        r.3,
        r.4,
      )

  refused_by : (s : Status)
      → IsRunAnswer s words i o e → IsRefusalStatus s
      → (c : Command) × (text : List ℕ) × AsksWholeText c words i text × IsRefused c s text o e
  refused_by Status.NotPages run is =
      (run.0, run.2.0, record { asked = run.1; read = run.2.1 }, refused_with run.0 run.2.0 Status.NotPages run.2.2)
  refused_by Status.Halted run is =
      (run.0, run.2.0, record { asked = run.1; read = run.2.1 }, refused_with run.0 run.2.0 Status.Halted run.2.2)
  refused_by s run is = absurd is

  too_long : (most : ℕ) (reported text : List ℕ)
      → (i.before ≡ Some reported) × (length reported ≤ most) → ReadTooMuch most i text → ⊥
  too_long most reported text is read =
      let short = taken_short i.before i.after reported text is.0 read.taken in omega (arith, short, read.past, is.1)

  not_too_long : (c : Command) (reported text : List ℕ)
      → ReadsInput c → IsReportedOn c i reported → ReadTooMuch (limit_of c) i text → ⊥
  not_too_long c reported text reads is read =
      too_long (limit_of c) reported text (reported_reader c reported reads is) read

  not_cut : (c : Command) (called : Called) → NoFault c i o e → WriteFailed called o e → ⊥
  not_cut c called good (inl cut) = good.output cut.0.2
  not_cut c called good (inr cut) = good.errors cut.1.2

  not_failed : (c : Command) (text : List ℕ) → NoFault c i o e → FailedToWrite c text o e → ⊥
  not_failed c text good (inl (called, calls, cut)) = not_cut c called good cut
  not_failed c text good (inr cut) = good.output cut.1

  -- a command was obeyed, no fault was counted, and memory was found
  obeyed_as : (c : Command) (s : Status)
      → IsCommandAnswer c s i o e → (reported : List ℕ) → NoFault c i o e → IsReportedOn c i reported
      → (s ≡ Status.Memory → ⊥)
      → (s ≡ Status.Usage → ⊥)
      → IsDone c s reported o e ⊎ IsRefused c s reported o e
  obeyed_as c Status.Usage r reported good is ample listed = absurd (listed refl)
  obeyed_as c Status.ReadFault r reported good is ample listed = absurd (good.input r.0 r.2)
  obeyed_as c Status.TooLong r reported good is ample listed = absurd (not_too_long c reported r.1.0 r.0 is r.1.1)
  obeyed_as c Status.Memory r reported good is ample listed = absurd (ample refl)
  obeyed_as c Status.WriteFault (text, read, r) reported good is ample listed = absurd (not_failed c text good r)
  obeyed_as c Status.NotPages (text, read, r) reported good is ample listed =
      inr (refused_reported c reported Status.NotPages is text read r)
  obeyed_as c Status.Halted (text, read, r) reported good is ample listed =
      inr (refused_reported c reported Status.Halted is text read r)
  obeyed_as c s (text, read, r) reported good is ample listed =
      inl (done_reported c reported s is text read r.0 r.1 r.2 r.3 r.4)

  -- the answer of this command, when the words ask for it
  obeyed : AsksOne → (d : Command) (s : Status) → IsRunAnswer s words i o e → Asks words d
      → (s ≡ Status.Usage → ⊥) × IsCommandAnswer d s i o e
  obeyed one d Status.Usage run asked = absurd (run.0 (d, asked))
  obeyed one d s run asked = (λ is. cc, subst (λ c. IsCommandAnswer c s i o e) (one words run.0 d run.1 asked) run.2)

  answered_as : AsksOne → (s : Status) → IsRunAnswer s words i o e → (c : Command) (text : List ℕ)
      → IsRunOn c words i o e text → (s ≡ Status.Memory → ⊥)
      → IsDone c s text o e ⊎ IsRefused c s text o e
  answered_as one s run c text given ample =
      let r = obeyed one c s run given.asked in obeyed_as c s r.1 text given.good given.reported ample r.0

  pub promised : AsksOne → (s : Status) → IsRunAnswer s words i o e → Promises s words i o e
  promised one s run = record {
    usage = (λ is. (subst (λ t. IsRunAnswer t words i o e) is run).0, usage_by s run);
    usage_line = λ is. (let r = subst (λ t. IsRunAnswer t words i o e) is run in (r.1, r.2, r.3));
    read_fault = λ is. (let r = subst (λ t. IsRunAnswer t words i o e) is run in
        ((r.0, r.1, r.2.0, r.2.1), r.2.2, r.2.3, r.2.4));
    too_long =
        λ is. (let r = subst (λ t. IsRunAnswer t words i o e) is run in ((r.0, r.1, r.2.0, r.2.1), r.2.2, r.2.3));
    refused = refused_by s run;
    write_fault = λ is. (let r = subst (λ t. IsRunAnswer t words i o e) is run in
        (r.0, r.2.0, record { asked = r.1; read = r.2.1 }, r.2.2));
    memory = λ is. memory_by (subst (λ t. IsRunAnswer t words i o e) is run);
    done = done_by s run;
    answered = answered_as one s run;
  }
