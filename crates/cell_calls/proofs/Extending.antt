-- Parts of displays behind others.
use Rattle.std.proofs.Common.{◌≡◌, refl, sym, ap, ◌∙◌, arith, ℕ, ◌+◌, Bool, true, false, List, [], ◌∷◌, ◌++◌, append_assoc, append-nil, drop, length, length-append}
use Rattle.std.specs.Prelude.{Some, slice_index, ◌==◌}
use Rattle.std.proofs.lemmas.Bool.Decides.{nat_tests}
use Rattle.std.proofs.lemmas.List.{drop-drop, length-map}
use Rattle.vl_base.specs.Display.{Format, format_of, letter_text, item_text, shown as shown_of}
use Rattle.vl_design.specs.Syntax.{Exp, Piece, Literal, Shown}
use Rattle.vl_design.specs.Formats.{taken}
use Rattle.vl_design.specs.Width.{Names, form}
use Rattle.cell_emit.specs.cell_form.specs.declared.table.FormatPart.{FormatPart}
use Rattle.cell_emit.specs.cell_form.specs.declared.table.FormatPart.TheVariants as part
use Rattle.ten_form.specs.trap_runtime.specs.Served.{parts_text}
use Rattle.ten_form.specs.Asked.{shown, own_widths}
use Rattle.cell_calls.specs.Displays.{Extends, Alike}
use Rattle.ten_form.specs.Traps.{shown_text, item_widths}

pub empty-list : (xs : List ℕ) (ys : List ℕ) → ys ≡ xs → (length ys == 0) ≡ true → xs ≡ []
empty-list [] ys e h = refl
empty-list (x ∷ xs) ys e h =
    let n : (length (x ∷ xs) == 0) ≡ false = grind (arith, nat_tests) in
    let m : (length (x ∷ xs) == 0) ≡ true = ap (λ (z : List ℕ). length z == 0) (sym e) ∙ h in
    let z : ⊥ = cc in
    absurd z

-- ---- parts one after another

width-append : (ps qs : List FormatPart) → item_widths (ps ++ qs) ≡ item_widths ps ++ item_widths qs
width-append [] qs = refl
width-append (part.Lit t ∷ ps) qs = width-append ps qs
width-append (part.Item letter least w signed ∷ ps) qs = ap (λ k. w ∷ k) (width-append ps qs)

-- one value less, and so many
drop-next : (w : ℕ) (ws vs : List ℕ) → drop (length ws) (drop 1 vs) ≡ drop (length (w ∷ ws)) vs
drop-next w ws vs = let e : 1 + length ws ≡ length (w ∷ ws) = omega arith in drop-drop (length ws) 1 vs ∙ ap (λ n. drop n vs) e

parts-append : (ps qs : List FormatPart) (vs : List ℕ) → parts_text (ps ++ qs) vs ≡ parts_text ps vs ++ parts_text qs (drop (length (item_widths ps)) vs)
parts-append [] qs vs = refl
parts-append (part.Lit t ∷ ps) qs vs = ap (λ k. t ++ k) (parts-append ps qs vs) ∙ sym (append_assoc t (parts_text ps vs) _)
parts-append (part.Item letter least w signed ∷ ps) qs vs =
    let one = letter_text letter least signed w (slice_index vs 0) in
    ap (λ k. one ++ k) (parts-append ps qs (drop 1 vs))
    ∙ (ap (λ k. one ++ (parts_text ps (drop 1 vs) ++ parts_text qs k)) (drop-next w (item_widths ps) vs)
    ∙ sym (append_assoc one (parts_text ps (drop 1 vs)) _))

-- ---- pieces one after another

pub shown-append : (ps qs : List Piece) → shown (ps ++ qs) ≡ shown ps ++ shown qs
shown-append [] qs = refl
shown-append (Literal t ∷ ps) qs = shown-append ps qs
shown-append (Shown format e ∷ ps) qs = ap (λ k. e ∷ k) (shown-append ps qs)

pub taken-shown : (ps : List Piece) → taken ps ≡ length (shown ps)
taken-shown [] = refl
taken-shown (Literal t ∷ ps) = taken-shown ps
taken-shown (Shown format e ∷ ps) = let h = taken-shown ps in omega (arith, h)

module _ (names : Names) where
  pub line-append : (ps qs : List Piece) (vs : List ℕ) → shown_text names (ps ++ qs) vs ≡ shown_text names ps vs ++ shown_text names qs (drop (length (shown ps)) vs)
  line-append [] qs vs = refl
  line-append (Literal t ∷ ps) qs vs = ap (λ k. t ++ k) (line-append ps qs vs) ∙ sym (append_assoc t (shown_text names ps vs) _)
  line-append (Shown format e ∷ ps) qs vs =
      let one = item_text format (form names e).signed (form names e).width (slice_index vs 0) in
      let next : drop (length (shown ps)) (drop 1 vs) ≡ drop (length (e ∷ shown ps)) vs =
      (let n : 1 + length (shown ps) ≡ length (e ∷ shown ps) = omega arith in drop-drop (length (shown ps)) 1 vs ∙ ap (λ n. drop n vs) n) in
      ap (λ k. one ++ k) (line-append ps qs (drop 1 vs))
      ∙ (ap (λ k. one ++ (shown_text names ps (drop 1 vs) ++ shown_text names qs k)) next
      ∙ sym (append_assoc one (shown_text names ps (drop 1 vs)) _))

  -- ---- parts that print pieces behind others

  pub extends-none : (a : List FormatPart) → Extends names [] a a
  extends-none a = record { text = λ vs. sym (append-nil (parts_text a vs)); widths = sym (append-nil (item_widths a)) }

  pub extends-then : (ps qs : List Piece) (a b c : List FormatPart) → Extends names ps a b → Extends names qs b c → Extends names (ps ++ qs) a c
  extends-then ps qs a b c h k =
      let many : length (item_widths b) ≡ length (item_widths a) + length (shown ps) =
      ap (λ (z : List ℕ). length z) h.widths ∙ (length-append (item_widths a) (own_widths names (shown ps)) ∙ ap (λ n. length (item_widths a) + n) (length-map (shown ps) (λ e. (form names e).width))) in
      record {
        text = λ vs.
            let from = drop (length (item_widths a)) vs in
            let next : drop (length (item_widths b)) vs ≡ drop (length (shown ps)) from = ap (λ n. drop n vs) many ∙ sym (drop-drop (length (shown ps)) (length (item_widths a)) vs) in
            k.text vs
            ∙ (ap (λ z. z ++ shown_text names qs (drop (length (item_widths b)) vs)) (h.text vs)
            ∙ (append_assoc (parts_text a vs) (shown_text names ps from) _
            ∙ ap (λ z. parts_text a vs ++ z) (ap (λ z. shown_text names ps from ++ shown_text names qs z) next ∙ sym (line-append ps qs from))));
        widths = k.widths
            ∙ (ap (λ z. z ++ own_widths names (shown qs)) h.widths
            ∙ (append_assoc (item_widths a) (own_widths names (shown ps)) _
            ∙ ap (λ z. item_widths a ++ z) (own-append (shown ps) (shown qs) ∙ ap (own_widths names) (sym (shown-append ps qs)))));
      }
    where
      own-append : (es fs : List Exp) → own_widths names es ++ own_widths names fs ≡ own_widths names (es ++ fs)
      own-append [] fs = refl
      own-append (e ∷ es) fs = ap (λ k. (form names e).width ∷ k) (own-append es fs)

  pub extends-alike : (ps qs : List Piece) (a b : List FormatPart) → Alike names qs ps → Extends names ps a b → Extends names qs a b
  extends-alike ps qs a b h k = record {
    text = λ vs. k.text vs ∙ ap (λ z. parts_text a vs ++ z) (sym (h.text (drop (length (item_widths a)) vs)));
    widths = k.widths ∙ ap (λ z. item_widths a ++ own_widths names z) (sym h.shown);
  }

  -- a text behind parts
  pub extends-text : (a : List FormatPart) (t u : List ℕ) → Extends names (Literal t ∷ []) (a ++ part.Lit u ∷ []) (a ++ part.Lit (u ++ t) ∷ [])
  extends-text a t u = record {
    text = λ vs.
        parts-append a (part.Lit (u ++ t) ∷ []) vs
        ∙ (ap (λ z. parts_text a vs ++ z) (append_assoc u t [] ∙ ap (λ z. z ++ (t ++ [])) (sym (append-nil u)))
        ∙ (sym (append_assoc (parts_text a vs) (u ++ []) (t ++ []))
        ∙ ap (λ z. z ++ (t ++ [])) (sym (parts-append a (part.Lit u ∷ []) vs))));
    widths = width-append a (part.Lit (u ++ t) ∷ []) ∙ (sym (width-append a (part.Lit u ∷ [])) ∙ sym (append-nil (item_widths (a ++ part.Lit u ∷ []))));
  }

  -- a text that is empty
  pub extends-empty : (a : List FormatPart) → Extends names [] (a ++ part.Lit [] ∷ []) a
  extends-empty a = record {
    text = λ vs. sym (append-nil (parts_text (a ++ part.Lit [] ∷ []) vs) ∙ (parts-append a (part.Lit [] ∷ []) vs ∙ append-nil (parts_text a vs)));
    widths = sym (append-nil (item_widths (a ++ part.Lit [] ∷ [])) ∙ (width-append a (part.Lit [] ∷ []) ∙ append-nil (item_widths a)));
  }

  -- an item behind parts, and an empty text behind it
  pub extends-item : (a : List FormatPart) (letter w : ℕ) (least signed : Bool) (format : Format) (e : Exp) → format_of letter least ≡ Some format → w ≡ (form names e).width → signed ≡ (form names e).signed →
      Extends names (Shown format e ∷ []) a ((a ++ part.Item letter least w signed ∷ []) ++ part.Lit [] ∷ [])
  extends-item a letter w least signed format e f wide sign =
      let whole : (a ++ part.Item letter least w signed ∷ []) ++ part.Lit [] ∷ [] ≡ a ++ (part.Item letter least w signed ∷ part.Lit [] ∷ []) = append_assoc a (part.Item letter least w signed ∷ []) (part.Lit [] ∷ []) in
      record {
        text = λ vs.
            let from = drop (length (item_widths a)) vs in
            let item : letter_text letter least signed w (slice_index from 0) ≡ item_text format (form names e).signed (form names e).width (slice_index from 0) =
            ap (λ z. shown_of z signed w (slice_index from 0)) f ∙ (ap (λ z. item_text format z w (slice_index from 0)) sign ∙ ap (λ z. item_text format (form names e).signed z (slice_index from 0)) wide) in
            ap (λ z. parts_text z vs) whole ∙ (parts-append a (part.Item letter least w signed ∷ part.Lit [] ∷ []) vs ∙ ap (λ z. parts_text a vs ++ (z ++ [])) item);
        widths = ap item_widths whole ∙ (width-append a (part.Item letter least w signed ∷ part.Lit [] ∷ []) ∙ ap (λ z. item_widths a ++ z ∷ []) wide);
      }
