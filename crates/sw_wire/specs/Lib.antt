pub mod Words
pub mod Numbers
pub mod Requests
pub mod Replies
pub mod StepReplies
