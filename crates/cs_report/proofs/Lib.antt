mod LineTexts
mod JsonTexts
pub mod KindCounts
