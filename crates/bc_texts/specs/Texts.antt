-- The texts that the program writes beside a program's output.
use Rattle.std.specs.Prelude.{ℕ, ◌-◌, List, [], ◌∷◌, ◌++◌, length, take, codes, slice_get, Option, Some, None}
use Rattle.std.specs.List.{flat_map}
use Rattle.std.specs.Fmt.{decimal}
use Rattle.bc_data.specs.Typed.{TypedProgram, TypedTask}
use Rattle.bc_data.specs.declared.run.Invocation.{Invocation}
use Rattle.bc_data.specs.declared.run.FaultKind.{FaultKind}
use Rattle.bc_data.specs.declared.run.FaultKind.TheVariants as fault
use Rattle.bc_data.specs.declared.run.Place.{Place}
use Rattle.bc_data.specs.declared.run.Stop.{Stop}
use Rattle.bc_data.specs.declared.run.Stop.TheVariants as stop
use Rattle.bc_data.specs.declared.run.Failure.{Failure}
use Rattle.bc_texts.specs.declared.refused.RefusedKind.{RefusedKind}
use Rattle.bc_texts.specs.declared.refused.RefusedKind.TheVariants as refused

abbrev pub line_feed : List ℕ
line_feed = 10 ∷ []

abbrev pub kind_name : FaultKind → List ℕ
kind_name fault.Null = codes "Null"
kind_name fault.Bounds = codes "Bounds"
kind_name fault.Zero = codes "Zero"
kind_name fault.Assert = codes "Assert"
kind_name fault.Size = codes "Size"
kind_name fault.Turns = codes "Turns"
kind_name fault.Depth = codes "Depth"
kind_name fault.Text = codes "Text"
kind_name fault.TagSlots = codes "TagSlots"
kind_name fault.Objects = codes "Objects"
kind_name fault.Cells = codes "Cells"
kind_name fault.Tags = codes "Tags"
kind_name fault.Output = codes "Output"

abbrev pub task_name : Option TypedTask → List ℕ
task_name None = []
task_name (Some t) = t.name

-- numbers joined by commas
abbrev pub behind_comma : ℕ → List ℕ
behind_comma n = 44 ∷ decimal n

abbrev pub joined : List ℕ → List ℕ
joined [] = []
joined (n ∷ ns) = decimal n ++ flat_map behind_comma ns

-- the instances behind a bar, where there are any
abbrev pub tags_text : List ℕ → List ℕ
tags_text [] = []
tags_text (n ∷ ns) = 124 ∷ joined (n ∷ ns)

-- as `join(2,3|0)`
abbrev pub invocation_text : TypedProgram → Invocation → List ℕ
invocation_text P v = task_name (slice_get P.tasks v.task) ++ codes "(" ++ joined v.objects ++ tags_text v.tags ++ codes ")"

-- as `3:14`
abbrev pub place_text : Place → List ℕ
place_text at = decimal at.line ++ codes ":" ++ decimal at.column

-- as `failed: boom(0): Assert at 3:3`
abbrev pub failure_line : TypedProgram → Failure → List ℕ
failure_line P f = codes "failed: " ++ invocation_text P f.v ++ codes ": " ++ kind_name f.fault.kind ++ codes " at " ++ place_text f.fault.at ++ line_feed

-- so many were committed, and so many fail
abbrev pub end_line : ℕ → ℕ → List ℕ
end_line committed failed = codes "end: " ++ decimal committed ++ codes " committed, " ++ decimal failed ++ codes " failed" ++ line_feed

-- the end line, and the lines of the first 20 failures
abbrev pub end_text : TypedProgram → ℕ → List Failure → List ℕ
end_text P committed failures = end_line committed (length failures) ++ flat_map (failure_line P) (take 20 failures)

abbrev pub spent_text : ℕ → List ℕ
spent_text committed = codes "spent: " ++ decimal committed ++ codes " committed" ++ line_feed

abbrev pub crowded_text : ℕ → List ℕ
crowded_text committed = codes "crowded: " ++ decimal committed ++ codes " committed, over 262144 enabled" ++ line_feed

abbrev pub memory_text : List ℕ
memory_text = codes "memory" ++ line_feed

-- what a run tells of its end
abbrev pub stop_text : TypedProgram → Stop → ℕ → List Failure → List ℕ
stop_text P stop.End committed failures = end_text P committed failures
stop_text P (stop.Spent v) committed failures = spent_text committed
stop_text P (stop.Crowded v) committed failures = crowded_text committed
stop_text P stop.Memory committed failures = memory_text

abbrev pub words_text : List ℕ
words_text = codes "words: not a command" ++ line_feed

abbrev pub read_text : List ℕ
read_text = codes "read failed" ++ line_feed

abbrev pub write_text : List ℕ
write_text = codes "write failed" ++ line_feed

abbrev pub long_text : List ℕ
long_text = codes "too long" ++ line_feed

abbrev pub refused_name : RefusedKind → List ℕ
refused_name refused.BadByte = codes "BadByte"
refused_name refused.OpenComment = codes "OpenComment"
refused_name refused.OpenText = codes "OpenText"
refused_name refused.NumberRange = codes "NumberRange"
refused_name refused.Unexpected = codes "Unexpected"
refused_name refused.TooDeep = codes "TooDeep"
refused_name refused.Twice = codes "Twice"
refused_name refused.TooMany = codes "TooMany"
refused_name refused.Unknown = codes "Unknown"
refused_name refused.Mismatch = codes "Mismatch"
refused_name refused.Arity = codes "Arity"
refused_name refused.Fixed = codes "Fixed"
refused_name refused.Misplaced = codes "Misplaced"
refused_name refused.NoReturn = codes "NoReturn"

-- as `refused: Unexpected at 1:52`
abbrev pub refused_text : RefusedKind → Place → List ℕ
refused_text kind at = codes "refused: " ++ refused_name kind ++ codes " at " ++ place_text at ++ line_feed

-- as `ok: 1 classes, 0 tag types, 3 tasks`; `StartupObject` isn't counted
abbrev pub ok_text : ℕ → ℕ → ℕ → List ℕ
ok_text classes tag_types tasks = codes "ok: " ++ decimal (classes - 1) ++ codes " classes, " ++ decimal tag_types ++ codes " tag types, " ++ decimal tasks ++ codes " tasks" ++ line_feed
