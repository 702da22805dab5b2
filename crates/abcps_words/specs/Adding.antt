-- Options one after another, as the words are read: what they say with one more, if none of its kind is among them.
use Rattle.std.specs.Prelude.{Bool, true, false, if◌then◌else◌, Option, Some, None, is_some}
use Rattle.abcps_words.specs.declared.options.{Flag.Flag, Options.Options}

abbrev pub no_options : Options
no_options = record { flow = false; table = false; even = false; jobs = None; by = None }

-- an option of this kind is among them
abbrev pub has_kind : Options → Flag → Bool
has_kind o Flag.Flow = o.flow
has_kind o Flag.Table = o.table
has_kind o Flag.Even = o.even
has_kind o (Flag.Jobs jobs) = is_some o.jobs
has_kind o (Flag.Transpose by) = is_some o.by

abbrev pub with_flag : Options → Flag → Options
with_flag o Flag.Flow = record o { flow = true }
with_flag o Flag.Table = record o { table = true }
with_flag o Flag.Even = record o { even = true }
with_flag o (Flag.Jobs jobs) = record o { jobs = Some jobs }
with_flag o (Flag.Transpose by) = record o { by = Some by }

abbrev pub with_option : Options → Flag → Option Options
with_option o f = if has_kind o f then None else Some (with_flag o f)
