use Rattle.std.proofs.Common.{◌<◌, List, length, ap, ◌∙◌, sym, arith, set, subst}
use Rattle.std.specs.Prelude.{IfSome}
use Rattle.std.proofs.lemmas.List.{length-map}
use Rattle.std.proofs.lemmas.Result.{err_from_is_err_and}
use Rattle.trap_runtime.specs.cell_form.specs.Views.{bank_of}
use Rattle.trap_runtime.specs.ten_files.specs.Tables.{open_files}
use Rattle.trap_runtime.specs.Served.{Works}
use Rattle.trap_runtime.specs.Traps.{IsTrap}
use Rattle.fab_join.specs.Laid.{part_data}
use Rattle.fab_join.specs.Parts.{PartData, part_at, with_bank}
use Rattle.fab_join.specs.Traps.{trap_in, part_served, trap_takes_memory, way_of_trap}
use Rattle.fab_join.proofs.PartTraps.{may-serve, view-served, table-served, text-served, way-served, memory-served}
use Rattle.fab_join.proofs.joined.Joined.serve.Goals as goal

pub serve_present-requires-clause-trap : goal.serve_present-requires-clause-trap
serve_present-requires-clause-trap c =
    let ps = c.self.inside.parts.items in
    let b = bank_of c.self.inside.bank in
    let x = c.index.result.now in
    let i = c.args.part in
    let lt : i < length ps = omega (arith, sym (length-map ps (part_data b)) ∙ ap length c.self.view_is) in
    let P : List PartData → Type 0 = λ qs. IfSome (trap_in (part_at qs i)) (λ t. IsTrap (part_at qs i).bank t) in
    may-serve b ps i x lt c.index.ensures c.self.invariant (subst P (sym c.self.view_is) c.requires.trap)

pub returns-clause-parts : goal.returns-clause-parts
returns-clause-parts c =
    let ps = c.self.inside.parts.items in
    let b = bank_of c.self.inside.bank in
    let x = c.index.result.now in
    let i = c.args.part in
    let files = c.args.files.now in
    let rows = open_files files c.args.table.now in
    let printed = c.args.out.now.items in
    let lt : i < length ps = omega (arith, sym (length-map ps (part_data b)) ∙ ap length c.self.view_is) in
    let P : List PartData → Type 0 = λ qs. IfSome (trap_in (part_at qs i)) (λ t. IsTrap (part_at qs i).bank t) in
    let y : Works = record { bank = bank_of c.serve_present.new.bank; table = open_files files c.serve_present.new.table; printed = c.serve_present.new.out.items } in
    view-served b ps i x lt c.index.ensures c.self.invariant (subst P (sym c.self.view_is) c.requires.trap) files rows printed y c.in_ok-way.ensures.served
    ∙ ap (λ (qs : List PartData). set qs i (with_bank (part_at qs i) (part_served files (part_at qs i) rows printed).bank)) c.self.view_is

pub returns-clause-opened : goal.returns-clause-opened
returns-clause-opened c =
    let ps = c.self.inside.parts.items in
    let b = bank_of c.self.inside.bank in
    let x = c.index.result.now in
    let i = c.args.part in
    let files = c.args.files.now in
    let rows = open_files files c.args.table.now in
    let printed = c.args.out.now.items in
    let lt : i < length ps = omega (arith, sym (length-map ps (part_data b)) ∙ ap length c.self.view_is) in
    let P : List PartData → Type 0 = λ qs. IfSome (trap_in (part_at qs i)) (λ t. IsTrap (part_at qs i).bank t) in
    let y : Works = record { bank = bank_of c.serve_present.new.bank; table = open_files files c.serve_present.new.table; printed = c.serve_present.new.out.items } in
    table-served b ps i x lt c.index.ensures c.self.invariant (subst P (sym c.self.view_is) c.requires.trap) files rows printed y c.in_ok-way.ensures.served
    ∙ ap (λ (qs : List PartData). (part_served files (part_at qs i) rows printed).table) c.self.view_is

pub returns-clause-text : goal.returns-clause-text
returns-clause-text c =
    let ps = c.self.inside.parts.items in
    let b = bank_of c.self.inside.bank in
    let x = c.index.result.now in
    let i = c.args.part in
    let files = c.args.files.now in
    let rows = open_files files c.args.table.now in
    let printed = c.args.out.now.items in
    let lt : i < length ps = omega (arith, sym (length-map ps (part_data b)) ∙ ap length c.self.view_is) in
    let P : List PartData → Type 0 = λ qs. IfSome (trap_in (part_at qs i)) (λ t. IsTrap (part_at qs i).bank t) in
    let y : Works = record { bank = bank_of c.serve_present.new.bank; table = open_files files c.serve_present.new.table; printed = c.serve_present.new.out.items } in
    text-served b ps i x lt c.index.ensures c.self.invariant (subst P (sym c.self.view_is) c.requires.trap) files rows printed y c.in_ok-way.ensures.served
    ∙ ap (λ (qs : List PartData). (part_served files (part_at qs i) rows printed).printed) c.self.view_is

pub returns-clause-way : goal.returns-clause-way
returns-clause-way c =
    let ps = c.self.inside.parts.items in
    let b = bank_of c.self.inside.bank in
    let x = c.index.result.now in
    let i = c.args.part in
    let lt : i < length ps = omega (arith, sym (length-map ps (part_data b)) ∙ ap length c.self.view_is) in
    c.in_ok-way.ensures.way ∙ way-served b ps i x lt c.index.ensures c.self.invariant ∙ ap (λ (qs : List PartData). way_of_trap (trap_in (part_at qs i))) c.self.view_is

pub returns-in_err-way-clause-memory : goal.returns-in_err-way-clause-memory
returns-in_err-way-clause-memory c =
    let ps = c.self.inside.parts.items in
    let b = bank_of c.self.inside.bank in
    let x = c.index.result.now in
    let i = c.args.part in
    let lt : i < length ps = omega (arith, sym (length-map ps (part_data b)) ∙ ap length c.self.view_is) in
    rw (err_from_is_err_and c.from_residual.result c.from_residual.ensures.1).1
    (sym (memory-served b ps i x lt c.index.ensures c.self.invariant ∙ ap (λ (qs : List PartData). trap_takes_memory (trap_in (part_at qs i))) c.self.view_is)
    ∙ c.in_err-way.ensures.memory)
