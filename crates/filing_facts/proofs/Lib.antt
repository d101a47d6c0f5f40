mod FedDims
pub mod KeptTexts
