use Rattle.vl_run.proofs.scope.Scope.push_byte.Goals as goal

pub push_behind_percent-requires-clause-sound : goal.push_behind_percent-requires-clause-sound
push_behind_percent-requires-clause-sound g c = rw c.in-Percent.is at c.requires.sound

pub push_letter-requires-clause-sound : goal.push_letter-requires-clause-sound
push_letter-requires-clause-sound g c = rw c.in-PercentZero.is at c.requires.sound
