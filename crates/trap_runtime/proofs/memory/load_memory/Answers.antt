use Rattle.std.proofs.Common.{◌≡◌, ℕ, List, ◌∙◌, ap, sym, length, arith, w32, to_z, of_z, rules}
use Rattle.std.proofs.lemmas.Int.{to_z-of_z}
use Rattle.std.proofs.lemmas.List.{length-map}
use Rattle.fmt_text.specs.vl_design.specs.ReadHex.{words_read}
use Rattle.fmt_text.specs.vl_design.specs.Rows.{lower_of, range_width}
use Rattle.trap_runtime.proofs.Copying.{length-read, bank-loaded}
use Rattle.trap_runtime.proofs.memory.load_memory.Goals as goal

pub replace-requires : goal.replace-requires
replace-requires c =
    let old = c.index_mut-words.result.now in
    let same = c.in_ok-all.ensures ∙ c.as_slice.ensures.value in
    let read = c.load.ensures in
    let long = length-read c.shape.result.width c.shape.result.lowest c.shape.result.count c.args.text.now c.in_ok-all.all in
    ap length read ∙ long ∙ ap length same

pub returns-clause-ok : goal.returns-clause-ok
returns-clause-ok c =
    let b = c.args.bank.now in
    let m = c.in-Some.memory in
    let old = c.index_mut-words.result.now in
    let same = c.in_ok-all.ensures ∙ c.as_slice.ensures.value in
    let first = c.args.first in
    let last = c.args.last in
    let one : to_z w32 (of_z w32 first) ≡ first = to_z-of_z w32 first (search rules) in
    let two : to_z w32 (of_z w32 last) ≡ last = to_z-of_z w32 last (search rules) in
    let read = rw (one, two) at (rw (c.shape.ensures.width, c.shape.ensures.lowest, c.shape.ensures.count) at c.load.ensures) in
    let f : List ℕ → List ℕ = words_read c.args.width (lower_of first last) (range_width first last) c.args.text.now in
    let h = rw c.in-Some.is at c.requires in
    let there = h.there in
    let many = length-map b.mems.items (λ v. v.items) in
    rw c.in-Some.is (bank-loaded (λ v. v.items) b.regs.items b.slots.items b.mems.items m old _ f (omega (arith, there, many)) c.index_mut-words.ensures.value (c.replace.ensures ∙ read ∙ ap f same))
