-- The rows of a snapshot of a design that passes no limit.
use Rattle.std.proofs.Common.{◌≡◌, ◌≤◌, Bool, true, false, true≢false, cond, List, [], ◌∷◌, length, map, refl, sym, ◌∙◌}
use Rattle.std.specs.Prelude.{All, filter}
use Rattle.std.specs.List.{AllByRecursion}
use Rattle.std.proofs.lemmas.List.Elements.{recursion_from_All}
use Rattle.ten_plan.specs.vl_design.specs.declared.design.Signal.{Signal}
use Rattle.ten_plan.specs.vl_design.specs.declared.design.SigKind.{SigKind}
use Rattle.ten_plan.specs.vl_design.specs.declared.design.SigKind.TheVariants as kind
use Rattle.ten_plan.specs.vl_design.specs.Placed as p
use Rattle.ten_plan.specs.vl_design.specs.Rows.{range_width, row_of}
use Rattle.ten_plan.specs.vl_design.specs.Snapshots.{is_kept, snap_words}
use Rattle.ten_plan.specs.vl_design.specs.Syntax.{Row}
use Rattle.ten_plan.specs.vl_design.specs.Sound.{IsWidth}
use Rattle.vl_sound.specs.vl_flat.specs.Outcome.{is_counted}
use Rattle.ten_plan.specs.snap_form.specs.Spelling.{IsRow}
use Rattle.ten_plan.specs.Written as w
use Rattle.ten_plan.specs.Written.{HasRows}
use Rattle.elab_laws.specs.Limited.{counted, IsLimited}

-- what a snapshot keeps is counted
kept-counted : (k : SigKind) → is_kept k ≡ true → is_counted k ≡ true
kept-counted kind.Clock h = absurd (true≢false (sym h))
kept-counted kind.Loop h = absurd (true≢false (sym h))
kept-counted k h = refl

abbrev IsShort : Signal → Type 0
IsShort r = length r.name ≤ 255

abbrev HasItsWidth : Signal → Type 0
HasItsWidth r = IsWidth (range_width r.left r.right)

abbrev kept : List Signal → List Row
kept rs = filter (λ (r : Row). is_kept r.kind) (map row_of rs)

rows-of : (rs : List Signal) → AllByRecursion IsShort (counted rs) → AllByRecursion HasItsWidth rs → HasRows (map row_of rs)
rows-of [] h k = tt
rows-of (r ∷ rs) h k = by (is_counted r.kind) (is_kept r.kind) refl refl h (λ names. rows-of rs names k.1)
  where
    by : (c d : Bool) → is_counted r.kind ≡ c → is_kept r.kind ≡ d → AllByRecursion IsShort (cond c (r ∷ counted rs) (counted rs))
        → (AllByRecursion IsShort (counted rs) → HasRows (map row_of rs))
        → AllByRecursion IsRow (map w.row_of (map (λ (x : Row). record { name = x.name; width = x.width; words = snap_words x.kind x.words }) (cond d (row_of r ∷ kept rs) (kept rs))))
    by true true is there names rest = (record { name = names.0; width = record { wide = k.0.wide; narrow = k.0.narrow } }, rest names.1)
    by true false is there names rest = rest names.1
    by false true is there names rest = absurd (true≢false (sym (kept-counted r.kind there) ∙ is))
    by false false is there names rest = rest names

pub limited-rows : (d : p.Design) → IsLimited d → All HasItsWidth d.signals → HasRows (map row_of d.signals)
limited-rows d h widths = rows-of d.signals (recursion_from_All IsShort (counted d.signals) h.names) (recursion_from_All HasItsWidth d.signals widths)
