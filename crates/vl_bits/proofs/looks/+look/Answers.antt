use Rattle.std.proofs.Common.{rules, ◌≡◌, ◌+◌, refl, sym, ap, ◌∙◌, subst, drop, length}
use Rattle.std.specs.Prelude.{◌||◌, ◌&&◌, not, OnOk}
use Rattle.std.proofs.lemmas.List.{drop_all}
use Rattle.std.proofs.lemmas.Result.{on_ok_weaker}
use Rattle.vl_design.specs.declared.design.ExprNode.{the_lemmas}
use Rattle.vl_design.specs.Syntax.{Cat, Rep, Call}
use Rattle.vl_design.specs.Sound.{IsSoundExp}
use Rattle.vl_design.specs.Trees.{exp_of, exps_of}
use Rattle.vl_paths.specs.Bits as bits
use Rattle.vl_bits.specs.Seen.{names_seen}
use Rattle.vl_bits.proofs.Rows.{cat-is, rep-is, call-is, exps-more}
use Rattle.vl_bits.specs.Masks.{in_masks, in_parts, AreOf, Looks}
use Rattle.vl_bits.proofs.Looking.{looked, looked_none}
use Rattle.vl_bits.proofs.looks.+look.Goals as goal
use Rattle.vl_bits.proofs.looks.+look.Goals.{look-in-Some+in_ok-look_at-in-Some, look-in-None+in_ok-look-in-None}

pub look-looks-requires : goal.look-looks-requires
look-looks-requires t c =
    let s : IsSoundExp (names_seen c.args.m.now) (Cat (exps_of c.as_slice.result.now)) = rw (cat-is c.args.e.now c.in-Cat.parts c.as_slice.result.now c.in-Cat.is c.as_slice.ensures.value) at c.requires.sound in
    (search (rules, the_lemmas), (s.1, c.requires.long))

pub look-looks-requires-in-Rep : goal.look-looks-requires-in-Rep
look-looks-requires-in-Rep t c =
    let s : IsSoundExp (names_seen c.args.m.now) (Rep c.in-Rep.field-0 (exps_of c.as_slice-in-Rep.result.now)) = rw (rep-is c.args.e.now c.in-Rep.field-0 c.in-Rep.parts c.as_slice-in-Rep.result.now c.in-Rep.is c.as_slice-in-Rep.ensures.value) at c.requires.sound in
    (search (rules, the_lemmas), (s.1, c.requires.long))

pub look-looks-requires-in-Call : goal.look-looks-requires-in-Call
look-looks-requires-in-Call t c =
    let s : IsSoundExp (names_seen c.args.m.now) (Call c.in-Call.field-0 (exps_of c.as_slice-in-Call.result.now)) = rw (call-is c.args.e.now c.in-Call.field-0 c.in-Call.given c.as_slice-in-Call.result.now c.in-Call.is c.as_slice-in-Call.ensures.value) at c.requires.sound in
    (search (rules, the_lemmas), (s.2, c.requires.long))

pub look-returns-in-Cat-clause-bits : goal.look-returns-in-Cat-clause-bits
look-returns-in-Cat-clause-bits t c =
    subst (λ z. OnOk c.looks.result (Looks c.args.known.now.items c.args.read.now.items c.looks.new.read.items (λ b. bits.bit_read (names_seen c.args.m.now) b z)))
    (sym (cat-is c.args.e.now c.in-Cat.parts c.as_slice.result.now c.in-Cat.is c.as_slice.ensures.value)) c.looks.ensures.bits

pub look-returns-in-Rep-clause-bits : goal.look-returns-in-Rep-clause-bits
look-returns-in-Rep-clause-bits t c =
    subst (λ z. OnOk c.looks-in-Rep.result (Looks c.args.known.now.items c.args.read.now.items c.looks-in-Rep.new.read.items (λ b. bits.bit_read (names_seen c.args.m.now) b z)))
    (sym (rep-is c.args.e.now c.in-Rep.field-0 c.in-Rep.parts c.as_slice-in-Rep.result.now c.in-Rep.is c.as_slice-in-Rep.ensures.value)) c.looks-in-Rep.ensures.bits

pub look-returns-in-Call-clause-bits : goal.look-returns-in-Call-clause-bits
look-returns-in-Call-clause-bits t c =
    subst (λ z. OnOk c.looks-in-Call.result (Looks c.args.known.now.items c.args.read.now.items c.looks-in-Call.new.read.items (λ b. bits.bit_read (names_seen c.args.m.now) b z)))
    (sym (call-is c.args.e.now c.in-Call.field-0 c.in-Call.given c.as_slice-in-Call.result.now c.in-Call.is c.as_slice-in-Call.ensures.value)) c.looks-in-Call.ensures.bits

pub looks-loop-e-preserved : goal.looks-loop-e-preserved
looks-loop-e-preserved t c =
    let names = names_seen c.args.m.now in
    let es = c.args.es.now in
    let i = c.loop-e.e-index in
    let ks = c.args.known.now.items in
    let e = exps-more es i c.e-item.result c.loop-e-test.true c.e-item.is in
    record {
      sound = (rw e at c.loop-e.invariant.sound).1;
      read = λ b.
          ap (λ x. x || (not (in_masks ks b) && bits.some_bit_read names b (exps_of (drop (i + 1) es)))) (c.in_ok-look.ensures.bits b)
          ∙ looked (in_parts c.loop-e.read.items b) (not (in_masks ks b)) (bits.bit_read names b (exp_of c.e-item.result)) (bits.some_bit_read names b (exps_of (drop (i + 1) es)))
          ∙ ap (λ z. in_parts c.loop-e.read.items b || (not (in_masks ks b) && bits.some_bit_read names b z)) (sym e)
          ∙ c.loop-e.invariant.read b;
      within = λ h. c.in_ok-look.ensures.within (c.loop-e.invariant.within h);
    }

pub looks-returns-clause-bits : goal.looks-returns-clause-bits
looks-returns-clause-bits t c b =
    let names = names_seen c.args.m.now in
    let k = not (in_masks c.args.known.now.items b) in
    let r = in_parts c.loop-e.read.items b in
    looked_none r k
    ∙ ap (λ es. r || (k && bits.some_bit_read names b (exps_of es))) (sym (drop_all c.loop-e.e-index c.args.es.now c.loop-e-test.false))
    ∙ c.loop-e.invariant.read b

pub look-returns-in_ok-look_at-in-Word-clause-within : goal.look-returns-in_ok-look_at-in-Word-clause-within
look-returns-in_ok-look_at-in-Word-clause-within t c = on_ok_weaker c.look.result (λ f h. f (c.in_ok-look_at-in-Word.ensures.within h)) c.look.ensures.within

pub look-returns-after-selected-clause-within : goal.look-returns-after-selected-clause-within
look-returns-after-selected-clause-within t c =
    let n = length c.args.known.now.items in
    let first : AreOf n c.args.read.now.items → AreOf n c.match-selected.read.items =
    elim c.match-selected.branch [
      | look-in-Some+in_ok-look_at-in-Some w ↦ λ h. rw (w.read-is) (w.in_ok-look_at-in-Some.ensures.within h)
      | look-in-None+in_ok-look-in-None w ↦ λ h. rw (w.read-is) (w.in_ok-look-in-None.ensures.within h)
    ] in
    on_ok_weaker c.look-in-Pick.result (λ f h. f (first h)) c.look-in-Pick.ensures.within

pub look-returns-in_ok-look-in-Bin-clause-within : goal.look-returns-in_ok-look-in-Bin-clause-within
look-returns-in_ok-look-in-Bin-clause-within t c = on_ok_weaker c.look-in-Bin-2.result (λ f h. f (c.in_ok-look-in-Bin.ensures.within h)) c.look-in-Bin-2.ensures.within

pub look-returns-in_ok-look-in-Cond-2-clause-within : goal.look-returns-in_ok-look-in-Cond-2-clause-within
look-returns-in_ok-look-in-Cond-2-clause-within t c = on_ok_weaker c.look-in-Cond-3.result (λ f h. f (c.in_ok-look-in-Cond-2.ensures.within (c.in_ok-look-in-Cond.ensures.within h))) c.look-in-Cond-3.ensures.within
