-- What the program's settings stand for.
use Rattle.vl_check.specs.declared.place.Setting.{Setting}
use Rattle.vl_check.specs.Bodies as b

abbrev pub setting_of : Setting → b.Setting
setting_of s = record { role = s.role; shared = s.shared.now; own = s.own.now }
