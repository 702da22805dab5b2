pub mod SyllableLaws
pub mod SingingLaws
