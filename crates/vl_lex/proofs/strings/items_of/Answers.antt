use Rattle.std.proofs.Common.{length, sym, ap, arith}
use Rattle.vl_tree.specs.Strings.{no_more}
use Rattle.vl_lex.proofs.StringLaws.{item_sound, item_shorter, items_push, items_complete}
use Rattle.vl_lex.proofs.strings.items_of.Goals as goal

pub loop-byte-init : goal.loop-byte-init
loop-byte-init c = rw c.new-bytes.ensures.items no_more

pub loop-byte-smaller : goal.loop-byte-smaller
loop-byte-smaller c = item_shorter (item_sound c.loop-byte.rest.now (c.in-Some.byte, c.in-Some.after.now) (sym c.in-Some.ensures))

pub loop-byte-preserved : goal.loop-byte-preserved
loop-byte-preserved c = rw c.in_ok-push.ensures.items (items_push c.loop-byte.invariant (item_sound c.loop-byte.rest.now (c.in-Some.byte, c.in-Some.after.now) (sym c.in-Some.ensures)))

pub returns-clause-bytes : goal.returns-clause-bytes
returns-clause-bytes c = ap (λ p. p.0) (sym (items_complete (length c.args.inside.now) c.loop-byte.invariant (omega arith) (sym c.in_default.ensures)))

pub returns-clause-rest : goal.returns-clause-rest
returns-clause-rest c = ap (λ p. p.1) (sym (items_complete (length c.args.inside.now) c.loop-byte.invariant (omega arith) (sym c.in_default.ensures)))
