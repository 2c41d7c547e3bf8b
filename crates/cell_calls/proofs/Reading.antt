-- A format that is compiled up to a byte.
use Rattle.std.proofs.Common.{◌≡◌, ◌≤◌, ◌<◌, ◌∙◌, ℕ, ◌+◌, List, [], ◌∷◌, ◌++◌, drop, length, get_or}
use Rattle.std.specs.Prelude.{All}
use Rattle.vl_design.specs.Formats.{Arg, FormatPosition, InText, format_pieces, taken}
use Rattle.vl_design.specs.Sound.{IsSoundExp}
use Rattle.vl_design.specs.Syntax.{Piece, Flat}
use Rattle.vl_design.specs.Width.{names_of}
use Rattle.fmt_text.specs.Modes.{position_after}
use Rattle.cell_emit.specs.cell_form.specs.Data.{ListData}
use Rattle.cell_emit.specs.Slots.{Grows}
use Rattle.cell_emit.proofs.Frames.{grows-same, grows-then}
use Rattle.cell_emit.specs.Envs.{Env}
use Rattle.ten_form.specs.Asked.{shown}
use Rattle.cell_calls.specs.declared.display.Display.{Display}
use Rattle.cell_calls.specs.Displays.{IsReady, Adds}
use Rattle.cell_calls.proofs.Extending.{shown-append}
use Rattle.cell_calls.proofs.Formatting.{Reads, reads-none, byte-shown, reads-more, reads-all}
use Rattle.cell_calls.proofs.Owning.{ready-stays}
use Rattle.cell_calls.proofs.Walking.{adds-none, adds-then, adds-alike, first-of, rest-of}

module _ (d : Flat) (path text : List ℕ) (args : List Arg) (at : Env) where
  -- so far the cells of the first i bytes are compiled, whose items take so many arguments
  pub record Formatted (r : FormatPosition) (i count : ℕ) (a b : Display) (old new : ListData) : Type 0 where
    pub done : List Piece
    pub reads : Reads (names_of d) path text args r i count done
    pub adds : Adds d done at a b old new
    pub grows : Grows old new
    pub ready : IsReady d at old
    pub sound : All (IsSoundExp (names_of d)) (shown (format_pieces path InText text args))

  pub formatted-none : (a : Display) (l : ListData) → IsReady d at l → All (IsSoundExp (names_of d)) (shown (format_pieces path InText text args)) → Formatted InText 0 0 a a l l
  formatted-none a l ready sound = record {
    done = [];
    reads = reads-none (names_of d) path text args;
    adds = adds-none d at a l;
    grows = grows-same l;
    ready = ready;
    sound = sound;
  }

  module _ (r : FormatPosition) (i count byte : ℕ) (a b : Display) (old new : ListData) (l : i < length text) (is : byte ≡ get_or text i 0) (h : Formatted r i count a b old new) where
    pub byte-ready : IsReady d at new
    byte-ready = ready-stays d at old new h.grows h.ready

    pub byte-sound : All (IsSoundExp (names_of d)) (shown (format_pieces path r (byte ∷ []) (drop count args)))
    byte-sound =
        let left = rest-of (IsSoundExp (names_of d)) (shown (format_pieces path InText text args)) (shown h.done) (shown (format_pieces path r (drop i text) (drop count args)))
        (h.reads.alike.shown ∙ shown-append h.done (format_pieces path r (drop i text) (drop count args))) h.sound in
        first-of (IsSoundExp (names_of d)) (shown (format_pieces path r (drop i text) (drop count args))) (shown (format_pieces path r (byte ∷ []) (drop count args))) _
        (byte-shown (names_of d) path text args r i count byte h.done l is h.reads) left

    pub formatted-more : (r' : FormatPosition) (n : ℕ) (c : Display) (far : ListData) → r' ≡ position_after r byte → n ≡ taken (format_pieces path r (byte ∷ []) (drop count args)) → n ≤ 1 →
        Grows new far → Adds d (format_pieces path r (byte ∷ []) (drop count args)) at b c new far → Formatted r' (i + 1) (count + n) a c old far
    formatted-more r' n c far p t m g adds = record {
      done = h.done ++ format_pieces path r (byte ∷ []) (drop count args);
      reads = reads-more (names_of d) path text args r i count byte h.done l is h.reads r' n p t m;
      adds = adds-then d at h.done (format_pieces path r (byte ∷ []) (drop count args)) a b c old new far h.ready.fits h.adds adds;
      grows = grows-then old new far h.grows g;
      ready = h.ready;
      sound = h.sound;
    }

  pub formatted-all : (r : FormatPosition) (i count : ℕ) (a b : Display) (old new : ListData) → length text ≤ i → Formatted r i count a b old new →
      Adds d (format_pieces path InText text args) at a b old new × (count ≡ taken (format_pieces path InText text args))
  formatted-all r i count a b old new l h =
      let all = reads-all (names_of d) path text args r i count h.done l h.reads in
      (adds-alike d at h.done (format_pieces path InText text args) a b old new all.0 h.adds, all.1)
