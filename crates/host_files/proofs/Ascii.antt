-- A path is ASCII.
use Rattle.std.proofs.Common.{◌≡◌, ℕ, ◌<◌, ◌≤◌, true, List, [], ◌∷◌, length, arith}
use Rattle.std.specs.Prelude.{◌&&◌, ◌==◌, not, nat_le}
use Rattle.std.specs.List.{list_all}
use Rattle.std.specs.Str.{IsAscii, IsUtf8}
use Rattle.std.proofs.lemmas.Bool.{leb-true, and_parts}
use Rattle.std.proofs.lemmas.Str.{IsUtf8-from_ascii}
use Rattle.std.proofs.lemmas.Str.Ascii.{IsAscii-nil, IsAscii-cons}
use Rattle.host_form.specs.host_text.specs.Words.{is_path, is_path_byte}

low : (b : ℕ) → is_path_byte b ≡ true → b < 128
low b e =
    let front : (nat_le 33 b && nat_le b 126) ≡ true = (and_parts (nat_le 33 b && nat_le b 126) (not (b == 35)) e).0 in
    let upper : b ≤ 126 = leb-true b 126 (and_parts (nat_le 33 b) (nat_le b 126) front).1 in
    omega (arith, upper)

all-low : (bs : List ℕ) → list_all is_path_byte bs ≡ true → IsAscii bs
all-low [] e = IsAscii-nil
all-low (b ∷ bs) e = let h = and_parts (is_path_byte b) (list_all is_path_byte bs) e in IsAscii-cons b bs (low b h.0) (all-low bs h.1)

pub path-utf8 : (path : List ℕ) → is_path path ≡ true → IsUtf8 path
path-utf8 path e =
    IsUtf8-from_ascii path (all-low path (and_parts (nat_le 1 (length path) && nat_le (length path) 255) (list_all is_path_byte path) e).1)
