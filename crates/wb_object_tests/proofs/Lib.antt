pub mod OtherTexts
