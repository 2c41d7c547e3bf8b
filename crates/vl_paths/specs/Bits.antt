-- Which bits expressions read and targets assign (IEEE 1364-2005, clauses 5.2.1 and 9.2).
use Rattle.std.specs.Prelude.{ℕ, ℤ, pos, ◌+ℤ◌, int_le, int_lt, Bool, true, false, not, ◌||◌, ◌&&◌, [], Option, Some, None, if◌then◌else◌, ◌==◌}
use Rattle.vl_design.specs.declared.design.LowestBit.{LowestBit}
use Rattle.vl_design.specs.Syntax.{Exp, Num, Label, Sig, Word, Pick, Slice, Un, Bin, Cond, Cat, Rep, Cast, Call, Time, LastAnswer, Exps, NoExps, MoreExps, Target, Whole, WordAt, PickAt, SliceAt, Several, Targets, NoTargets, MoreTargets}
use Rattle.vl_design.specs.Width.{Names, Scope, signal_form}
use Rattle.vl_design.specs.Nodes.{has}
use Rattle.vl_design.specs.Reads.{target_writes}
use Rattle.vl_design.specs.Value.{Sample, own_reading, lowest_bit}

-- one bit of a signal
pub record Bit : Type 0 where
  pub signal : ℕ
  pub place : ℕ

-- the bit is one of so many of this signal, from `low` on
abbrev pub is_among : Bit → ℕ → ℤ → ℕ → Bool
is_among b k low width = (b.signal == k) && (int_le low (pos b.place) && int_lt (pos b.place) (low +ℤ pos width))

-- the bit is one of the signal's
abbrev pub is_of : Names → Bit → ℕ → Bool
is_of names b k = is_among b k (pos 0) (signal_form names.rows k).width

-- ---- indices

-- the node reads a signal, calls a function, or asks the time or for an answer
abbrev pub varies : Exp → Bool
varies (Sig k) = true
varies (Word m a) = true
varies (Call f es) = true
varies Time = true
varies LastAnswer = true
varies e = false

-- the expression reads nothing
abbrev pub is_constant : Exp → Bool
is_constant e = not (has varies e)

-- what a constant is read in: no files, no calls
abbrev pub closed : Names → Scope
closed names = record { names = names; files = []; call = λ f given. 0 }

-- and no values
abbrev pub nothing : Sample
nothing = record { values = []; time = 0; answer = 0 }

-- the lowest bit that an index names, if it is constant
abbrev pub known_low : Names → LowestBit → Exp → Option ℤ
known_low names from i = if is_constant i then Some (lowest_bit from (own_reading (closed names) nothing i)) else None

-- ---- reads

-- of a signal a select at a known place reads the bits that are there; elsewhere it reads all that its base reads
abbrev pub select_reads : Bit → Exp → Option ℤ → ℕ → Bool → Bool
select_reads b (Sig k) (Some low) w all = all && is_among b k low w
select_reads b base low w all = all

abbrev mutual
  -- the expression reads the bit
  pub bit_read : Names → Bit → Exp → Bool
  bit_read names b (Num v w s) = false
  bit_read names b (Label v care w s) = false
  bit_read names b (Sig k) = is_of names b k
  bit_read names b (Word m a) = is_of names b m || bit_read names b a
  bit_read names b (Pick base i from w) = select_reads b base (known_low names from i) w (bit_read names b base) || bit_read names b i
  bit_read names b (Slice base low w) = select_reads b base (Some low) w (bit_read names b base)
  bit_read names b (Un op a) = bit_read names b a
  bit_read names b (Bin op x y) = bit_read names b x || bit_read names b y
  bit_read names b (Cond t x y) = bit_read names b t || (bit_read names b x || bit_read names b y)
  bit_read names b (Cat es) = some_bit_read names b es
  bit_read names b (Rep n es) = some_bit_read names b es
  bit_read names b (Cast s a) = bit_read names b a
  bit_read names b (Call f es) = some_bit_read names b es
  bit_read names b Time = false
  bit_read names b LastAnswer = false

  pub some_bit_read : Names → Bit → Exps → Bool
  some_bit_read names b NoExps = false
  some_bit_read names b (MoreExps e es) = bit_read names b e || some_bit_read names b es

abbrev mutual
  -- an index in the target reads the bit
  pub index_reads : Names → Bit → Target → Bool
  index_reads names b (Whole k) = false
  index_reads names b (WordAt m a) = bit_read names b a
  index_reads names b (PickAt base i from w) = index_reads names b base || bit_read names b i
  index_reads names b (SliceAt base low w) = index_reads names b base
  index_reads names b (Several ts) = some_index_reads names b ts

  pub some_index_reads : Names → Bit → Targets → Bool
  some_index_reads names b NoTargets = false
  some_index_reads names b (MoreTargets t ts) = index_reads names b t || some_index_reads names b ts

-- ---- writes

-- a select of a whole signal at a known place writes the bits that are there; any other select writes none for sure, and
-- maybe (any) any bit of the signals below it
abbrev pub part_sets : Names → Bool → Bit → Target → Option ℤ → ℕ → Bool
part_sets names any b (Whole k) (Some low) w = is_of names b k && is_among b k low w
part_sets names any b base low w = any && target_writes (is_of names b) base

abbrev mutual
  -- an assignment to the target writes the bit: for sure, or, with `any`, maybe
  pub bit_set : Names → Bool → Bit → Target → Bool
  bit_set names any b (Whole k) = is_of names b k
  bit_set names any b (WordAt m a) = any && is_of names b m
  bit_set names any b (PickAt base i from w) = part_sets names any b base (known_low names from i) w
  bit_set names any b (SliceAt base low w) = part_sets names any b base (Some low) w
  bit_set names any b (Several ts) = some_bit_set names any b ts

  pub some_bit_set : Names → Bool → Bit → Targets → Bool
  some_bit_set names any b NoTargets = false
  some_bit_set names any b (MoreTargets t ts) = bit_set names any b t || some_bit_set names any b ts
