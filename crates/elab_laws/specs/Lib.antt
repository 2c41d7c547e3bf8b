pub mod Limited
pub mod Names
pub use Rattle.vl_accept.specs.vl_bits as vl_bits
pub use Rattle.vl_sound.specs.vl_tree as vl_tree
pub use Rattle.vl_sound.specs.vl_uses as vl_uses
pub use Rattle.vl_sound as vl_sound
pub use Rattle.vl_accept.specs.vl_check as vl_check
pub use Rattle.vl_accept as vl_accept
pub use Rattle.ten_plan as ten_plan
