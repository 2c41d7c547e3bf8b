use Rattle.std.proofs.Common.{◌≡◌, ap, sym, ◌∙◌, subst, map}
use Rattle.std.specs.Prelude.{Ok, Err, flat_map}
use Rattle.elab_plain.specs.vl_flat.specs.Flat as f
use Rattle.elab_plain.specs.vl_flat.specs.Outcome as o
use Rattle.elab_plain.specs.vl_flat.specs.Outcome.{◌>>=◌}
use Rattle.vl_design.specs.Seen.{func_of, process_of}
use Rattle.vl_elab.specs.Growing.{IsMade, Makes}
use Rattle.vl_elab.specs.Libraries.{modules_of}
use Rattle.vl_sound.specs.Meeting.{Meets}
use Rattle.vl_elab.proofs.Ends.{same-design, ends, met}
use Rattle.vl_elab.proofs.Unnumbered.{numbered-parts}
use Rattle.vl_elab.proofs.elaborate.design_from.Goals as goal

pub returns : goal.returns
returns c = λ m there.
    let ms = modules_of c.args.library.now in
    let made = subst (λ z. IsMade z c.in_ok-making.making) (numbered-parts c.args.library.now.numbered ms m c.requires.numbered) (c.in_ok-making.ensures m there) in
    let parts = f.parts_from ms m in
    ap (λ z. z >>= (λ t. Ok (f.design_of m parts))) made.judged
    ∙ ap (λ z. Ok z) (sym (same-design c.in_ok-top.top m.name.name
    c.from_vec.result (flat_map (λ a. a.signals) parts) (map func_of c.from_vec-2.result) (flat_map (λ a. a.funcs) parts) (map process_of c.from_vec-3.result) (flat_map (λ a. a.processes) parts)
    (c.in_ok-top.ensures ∙ ap (λ z. z.name.name) (c.definition_at.ensures m there))
    (c.from_vec.ensures ∙ made.signals)
    (ap (map func_of) c.from_vec-2.ensures ∙ made.funcs)
    (ap (map process_of) c.from_vec-3.ensures ∙ made.processes)))

pub returns-in_err-making : goal.returns-in_err-making
returns-in_err-making c = λ m there.
    let ms = modules_of c.args.library.now in
    let stop = c.in_err-making.field-0.0 in
    met c.from_residual.result stop _ c.from_residual.ensures (λ e h. h)
    (ends stop ms m (subst (λ z. Makes z (Err stop)) (numbered-parts c.args.library.now.numbered ms m c.requires.numbered) (c.in_err-making.ensures m there)))
