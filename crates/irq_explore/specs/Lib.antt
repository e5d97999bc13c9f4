pub mod Answered
pub mod Explored
pub mod Played
pub mod Present
pub mod Printing
pub mod Surveyed
pub mod Surveying
pub mod SurveyTexts
