-- Nets of the processes of a design.
use Rattle.std.specs.Prelude.{◌≡◌, ◌&&◌, List, [], ◌∷◌, length, ⊤}
use Rattle.vl_bits.specs.vl_design.specs.Syntax.{Proc}
use Rattle.vl_bits.specs.vl_design.specs.Width.{Names}
use Rattle.vl_bits.specs.vl_design.specs.Queue.{is_comb}
use Rattle.vl_bits.specs.vl_paths.specs.Bits.{Bit}
use Rattle.vl_bits.specs.vl_paths.specs.Paths.{early}
use Rattle.vl_bits.specs.vl_paths.specs.Touched.{touched}
use Rattle.vl_bits.specs.Masks.{in_parts, AreOf}
use Rattle.cell_level.specs.declared.nets.Net.{Net}

-- the net of a process: what it reads first and may assign, where it is combinational
pub record IsNetOf (names : Names) (a : Proc) (n : Net) : Type 0 where
  pub reads : (b : Bit) → in_parts n.reads.items b ≡ (is_comb a.kind && early names b a.body)
  pub drives : (b : Bit) → in_parts n.drives.items b ≡ (is_comb a.kind && touched names b a.body)
  pub reads_within : AreOf (length names.rows) n.reads.items
  pub drives_within : AreOf (length names.rows) n.drives.items

abbrev pub AreNetsOf : Names → List Proc → List Net → Type 0
AreNetsOf names [] [] = ⊤
AreNetsOf names (a ∷ as') (n ∷ ns) = IsNetOf names a n × AreNetsOf names as' ns
AreNetsOf names as' ns = ⊥
