-- Ports: what a bank holds of the variables and memories of a design (own).
use Rattle.std.specs.Prelude.{◌≡◌, ◌≢◌, ℕ, ◌<◌, ◌≤◌, ◌^◌, true, false, if◌then◌else◌, List, [], ◌∷◌, ◌++◌, length, map, take, drop, replicate, slice_get, slice_index, slice_index_or, slice_set, All, AllPairs}
use Rattle.std.specs.List.{flat_map}
use Rattle.std.specs.Option.{option_map_or}
use Rattle.cell_form.specs.declared.bank.Port.{Port}
use Rattle.cell_form.specs.Data.{BankData}

-- ---- what a port holds

-- how many words a port has: a variable has one
abbrev pub word_count : Port → ℕ
word_count p = if p.mem then p.words else 1

-- that of each port
abbrev pub word_counts : List Port → List ℕ
word_counts ports = map word_count ports

-- the width of each port
abbrev pub port_widths : List Port → List ℕ
port_widths ports = map (λ p. p.width) ports

-- the words that a bank holds of a port: a variable's work copy, or a memory's words from the lowest address on
abbrev pub held : BankData → Port → List ℕ
held b p = if p.mem then take p.words (slice_index_or b.mems p.value []) else slice_index b.regs p.work ∷ []

-- those of each port
abbrev pub all_held : List Port → BankData → List (List ℕ)
all_held ports b = map (held b) ports

-- those of all ports, one port behind the other
abbrev pub captured : List Port → BankData → List ℕ
captured ports b = flat_map (held b) ports

-- the width of each of them
abbrev pub widths : List Port → List ℕ
widths ports = flat_map (λ p. replicate (word_count p) p.width) ports

-- ---- ports that hold other words

-- a bank that holds these words of a port: of a variable both the value and the work copy
abbrev pub with_held : Port → List ℕ → BankData → BankData
with_held p ws b =
    if p.mem then record b { mems = slice_set b.mems p.value (ws ++ drop (length ws) (slice_index_or b.mems p.value [])) }
    else record b { regs = slice_set (slice_set b.regs p.value (slice_index ws 0)) p.work (slice_index ws 0) }

-- a bank in which one word of a port, by their numbers, is another
abbrev pub with_word : List Port → ℕ → ℕ → ℕ → BankData → BankData
with_word ports port word v b = option_map_or (λ p. with_held p (slice_set (held b p) word v) b) (slice_get ports port) b

-- words taken apart, so many for each part
abbrev pub parted : List ℕ → List ℕ → List (List ℕ)
parted [] ws = []
parted (n ∷ ns) ws = take n ws ∷ parted ns (drop n ws)

-- a bank that holds these words of all ports
abbrev pub restored : List Port → List ℕ → BankData → BankData
restored [] ws b = b
restored (p ∷ ps) ws b = restored ps (drop (word_count p) ws) (with_held p (take (word_count p) ws) b)

-- ---- the ports of a bank

-- a bank has the registers of a variable, or the words of a memory
pub record IsThere (b : BankData) (p : Port) : Type 0 where
  pub registers : p.mem ≡ false → (p.value < length b.regs) × (p.work < length b.regs)
  pub memory : p.mem ≡ true → (p.value < length b.mems) × (p.words ≤ length (slice_index_or b.mems p.value []))

-- a port of 1 to 128 bits
pub record HasWidth (p : Port) : Type 0 where
  pub wide : 1 ≤ p.width
  pub narrow : p.width ≤ 128

-- a port of a bank that has it, which holds numbers of the port's width
pub record IsPort (b : BankData) (p : Port) : Type 0 where
  pub width : HasWidth p
  pub there : IsThere b p
  pub fits : All (λ w. w < 2 ^ p.width) (held b p)

-- no register and no memory is named by both
pub record AreApart (p q : Port) : Type 0 where
  pub registers : p.mem ≡ false → q.mem ≡ false → (p.value ≢ q.value) × (p.value ≢ q.work) × (p.work ≢ q.value) × (p.work ≢ q.work)
  pub memories : p.mem ≡ true → q.mem ≡ true → p.value ≢ q.value

-- the ports of a bank, no two of which name one register or one memory
pub record IsMap (ports : List Port) (b : BankData) : Type 0 where
  pub each : All (IsPort b) ports
  pub apart : AllPairs AreApart ports
