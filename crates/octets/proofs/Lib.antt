pub mod Number
pub mod Written
pub mod AtMostFour
pub mod Words
pub mod WordsBack
