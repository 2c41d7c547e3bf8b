-- The bytes of a report.
use Rattle.std.specs.Prelude.{ℕ, List, ◌++◌, length, codes}
use Rattle.std.specs.List.{flat_map}
use Rattle.std.specs.Fmt.{decimal}
use Rattle.host_text.specs.declared.block.Status.{Status}
use Rattle.host_text.specs.declared.block.Status.TheVariants.{Finished, Budget, Stopped}
use Rattle.host_text.specs.declared.block.Stay.{Stay}
use Rattle.host_text.specs.declared.block.RunBlock.{RunBlock}
use Rattle.host_text.specs.declared.block.RefusedLine.{RefusedLine}
use Rattle.host_text.specs.declared.block.Block.{Block}
use Rattle.host_text.specs.declared.block.Block.TheVariants as b
use Rattle.host_text.specs.declared.block.Reply.{Reply}
use Rattle.host_text.specs.declared.block.Reply.TheVariants as reply_is
use Rattle.host_text.specs.declared.block.FreeLine.{FreeLine}

abbrev pub status_word : Status → List ℕ
status_word Finished = codes "finished"
status_word Budget = codes "budget"
status_word Stopped = codes "stopped"

-- a number behind a space
abbrev pub number : ℕ → List ℕ
number n = codes " " ++ decimal n

-- tenant NAME STATUS
abbrev pub title : RunBlock → List ℕ
title a = codes "tenant " ++ a.name ++ codes " " ++ status_word a.status

-- tenant NAME STATUS TICKS CYCLES BYTES
abbrev pub tenant_line : RunBlock → List ℕ
tenant_line a = title a ++ number a.ticks ++ number a.cycles ++ number (length a.printed) ++ codes "\n"

-- stay NAME FABRIC FROM TO
abbrev pub stay_line : List ℕ → Stay → List ℕ
stay_line name s = codes "stay " ++ name ++ codes " " ++ s.fabric ++ number s.from ++ number s.to ++ codes "\n"

-- a tenant that ran: its line, the printed bytes, a newline, and its stays
abbrev pub run_block : RunBlock → List ℕ
run_block a = tenant_line a ++ a.printed ++ codes "\n" ++ flat_map (stay_line a.name) a.stays

-- refused NAME LINE COLUMN KIND
abbrev pub refused_line : RefusedLine → List ℕ
refused_line a = codes "refused " ++ a.name ++ number a.place.line ++ number a.place.column ++ codes " " ++ a.kind ++ codes "\n"

abbrev pub block : Block → List ℕ
block (b.Ran a) = run_block a
block (b.Refused a) = refused_line a

-- K, ended K, small, refused
abbrev pub reply : Reply → List ℕ
reply (reply_is.At tick) = number tick
reply (reply_is.Ended tick) = codes " ended" ++ number tick
reply reply_is.Small = codes " small"
reply reply_is.Refused = codes " refused"

-- a word behind a space
abbrev pub word : List ℕ → List ℕ
word w = codes " " ++ w

-- free, the order's words, and the reply
abbrev pub free_line : FreeLine → List ℕ
free_line a = codes "free" ++ flat_map word a.words ++ reply a.reply ++ codes "\n"

-- the tenants, and then the free orders
abbrev pub report : List Block → List FreeLine → List ℕ
report blocks free = flat_map block blocks ++ flat_map free_line free
