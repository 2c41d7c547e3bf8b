use Rattle.ten_form.proofs.Doing.{can, does}
use Rattle.ten_form.proofs.laws.a_served_trap_does_its_call.Goals as goal

pub returns-clause-can : goal.returns-clause-can
returns-clause-can c d files task slots t b s committed h = can d files slots t b s committed task h

pub returns-clause-does : goal.returns-clause-does
returns-clause-does c d files task slots t b s committed bytes h = does d files slots t b s committed task bytes h
