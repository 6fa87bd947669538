pub mod LaidLaws
pub mod Laying
pub mod LayingLaws
pub mod Attachments
pub mod AttachmentsLaws
pub mod LayingAt
pub mod LayingAtLaws
