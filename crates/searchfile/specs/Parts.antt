-- Where VIEW's part lies, told by `face`, with what it is told in.
pub use Rattle.drum.specs.Parts.{Borrowed, Part, part_of, word_of, part_text, text_part}
unfoldable pub use Rattle.face.specs.Parts.{shown, view_at}
pub use Rattle.face.specs.Parts.{view_part}
