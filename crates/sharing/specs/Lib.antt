pub mod BytesLaws
pub mod Text
pub mod TextLaws
pub mod Key
pub mod KeyLaws
pub mod StreamLaws
