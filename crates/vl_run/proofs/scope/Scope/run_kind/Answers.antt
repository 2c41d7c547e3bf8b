use Rattle.vl_run.proofs.scope.Scope.run_kind.Goals as goal

pub print-requires-clause-sound : goal.print-requires-clause-sound
print-requires-clause-sound g c = rw c.in-Display.is at c.requires.sound

pub print-requires-in-Write-clause-sound : goal.print-requires-in-Write-clause-sound
print-requires-in-Write-clause-sound g c = rw c.in-Write.is at c.requires.sound

pub read_file-requires-clause-sound : goal.read_file-requires-clause-sound
read_file-requires-clause-sound g c = rw c.in-Read.is at c.requires.sound

pub read_character-requires-clause-sound : goal.read_character-requires-clause-sound
read_character-requires-clause-sound g c = rw c.in-Character.is at c.requires.sound

pub ask_end-requires-clause-sound : goal.ask_end-requires-clause-sound
ask_end-requires-clause-sound g c = rw c.in-Ended.is at c.requires.sound

pub close_file-requires-clause-sound : goal.close_file-requires-clause-sound
close_file-requires-clause-sound g c = rw c.in-Close.is at c.requires.sound

pub load_memory-requires-clause-sound : goal.load_memory-requires-clause-sound
load_memory-requires-clause-sound g c = rw c.in-Load.is at c.requires.sound

pub returns-in-Display-clause-does : goal.returns-in-Display-clause-does
returns-in-Display-clause-does g c = rw c.in-Display.is c.print.ensures.does

pub returns-in-Write-clause-does : goal.returns-in-Write-clause-does
returns-in-Write-clause-does g c = rw c.in-Write.is c.print-in-Write.ensures.does

pub returns-in-Save-clause-does : goal.returns-in-Save-clause-does
returns-in-Save-clause-does g c = rw c.in-Save.is c.save.ensures.does

pub returns-in-Open-clause-does : goal.returns-in-Open-clause-does
returns-in-Open-clause-does g c = rw c.in-Open.is c.open_file.ensures.does

pub returns-in-Read-clause-does : goal.returns-in-Read-clause-does
returns-in-Read-clause-does g c = rw c.in-Read.is c.read_file.ensures.does

pub returns-in-Character-clause-does : goal.returns-in-Character-clause-does
returns-in-Character-clause-does g c = rw c.in-Character.is c.read_character.ensures.does

pub returns-in-Ended-clause-does : goal.returns-in-Ended-clause-does
returns-in-Ended-clause-does g c = rw c.in-Ended.is c.ask_end.ensures.does

pub returns-in-Close-clause-does : goal.returns-in-Close-clause-does
returns-in-Close-clause-does g c = rw c.in-Close.is c.close_file.ensures.does

pub returns-in-Load-clause-does : goal.returns-in-Load-clause-does
returns-in-Load-clause-does g c = rw c.in-Load.is c.load_memory.ensures.does
