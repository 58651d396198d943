pub mod Cut
pub mod Drawn
pub mod Front
pub mod Overtaken
pub mod Sent
pub mod Unions
